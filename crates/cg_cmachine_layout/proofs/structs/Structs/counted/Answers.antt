use Rattle.std.proofs.Common.{subst}
use Rattle.cg_cmachine_layout.specs.Counts.{IsCounted}
use Rattle.cg_cmachine_layout.proofs.Members.{kind_right}
use Rattle.cg_cmachine_layout.proofs.structs.Structs.counted.Goals as goal

pub returns-clause-sized : goal.returns-clause-sized
returns-clause-sized c =
    subst (λ ss. IsCounted ss c.kind_of.result) c.self.view_is
    (kind_right c.self.inside.structs.now c.self.inside.names c.self.inside.sizes.items c.self.inside.rows.items c.self.invariant c.kind_of.result c.args.ty.now c.kind_of.ensures.ty
    (rw c.as_slice.ensures.value at c.kind_of.ensures.slots)).1
