use Rattle.std.proofs.Common.{◌∙◌}
use Rattle.cg_ctree.specs.declared.tree.CTy.TheVariants as ty
use Rattle.cg_cmachine_layout.proofs.Members.{all_slots}
use Rattle.cg_cmachine_layout.proofs.structs.Structs.shape.Goals as goal

pub invariant_of-result : goal.invariant_of-result
invariant_of-result c = record {
  sized = rw c.as_slice.ensures.value at c.struct_slots.ensures
      ∙ all_slots c.self.inside.structs.now c.self.inside.names c.self.inside.sizes.items c.self.inside.rows.items c.self.invariant (ty.Struct c.args.name.now);
}
