use Rattle.std.proofs.Common.{subst, ◌≡◌, ◌∙◌}
use Rattle.cg_ctree.specs.declared.tree.CTy.TheVariants as ty
use Rattle.cg_cmachine_def.specs.Layouts.{layout, size}
use Rattle.cg_cmachine_layout.proofs.Members.{all_slots}
use Rattle.cg_cmachine_layout.proofs.structs.Structs.counted_struct.Goals as goal

pub returns-clause-sized : goal.returns-clause-sized
returns-clause-sized c =
    subst (λ ss. c.struct_slots.result ≡ size (layout ss (ty.Struct c.args.name.now))) c.self.view_is
    (rw c.as_slice.ensures.value at c.struct_slots.ensures
    ∙ all_slots c.self.inside.structs.now c.self.inside.names c.self.inside.sizes.items c.self.inside.rows.items c.self.invariant (ty.Struct c.args.name.now))
