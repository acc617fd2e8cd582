use Rattle.std.proofs.Common.{◌≡◌, ◌+◌, drop}
use Rattle.cg_resolve_declared.specs.Tables.{texts}
use Rattle.cg_resolve_def.specs.Expand.{position_of}
use Rattle.cg_resolve_expand.proofs.named.first_place.Given as goal

abbrev pub invariant-loop-at : goal.invariant-loop-at
invariant-loop-at l = position_of (texts l.names) l.name ≡ l.at + position_of (texts (drop l.at l.names)) l.name
