use Rattle.std.proofs.Common.{◌≡◌, drop}
use Rattle.cg_mono_closed.proofs.Loops.{parts_closed, types_closed}
use Rattle.cg_mono_closed.proofs.closed.+closed.Given as goal

abbrev pub invariant-are_closed_parts-loop-part : goal.invariant-are_closed_parts-loop-part
invariant-are_closed_parts-loop-part l = parts_closed l.part-items ≡ parts_closed (drop l.part-index l.part-items)

abbrev pub invariant-are_closed_types-loop-ty : goal.invariant-are_closed_types-loop-ty
invariant-are_closed_types-loop-ty l = types_closed l.ty-items ≡ types_closed (drop l.ty-index l.ty-items)
