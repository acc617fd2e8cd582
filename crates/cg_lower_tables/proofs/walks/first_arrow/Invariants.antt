use Rattle.std.proofs.Common.{◌≡◌, ◌+◌, drop, map}
use Rattle.cg_base.specs.Types.{type_of}
use Rattle.cg_lower_def.specs.Lowered.{arrow_number}
use Rattle.cg_lower_tables.proofs.walks.first_arrow.Given as goal

abbrev pub invariant-loop-other : goal.invariant-loop-other
invariant-loop-other l =
    (l.at ≡ l.other-index) × (arrow_number (map type_of l.arrows) (type_of l.ty) ≡ l.at + arrow_number (map type_of (drop l.other-index l.arrows)) (type_of l.ty))
