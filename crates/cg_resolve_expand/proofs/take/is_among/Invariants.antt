use Rattle.std.proofs.Common.{◌≡◌, drop}
use Rattle.cg_resolve_def.specs.Declared.{is_among}
use Rattle.cg_resolve_expand.specs.Taken.{names_in}
use Rattle.cg_resolve_expand.proofs.take.is_among.Given as goal

abbrev pub invariant-loop-other : goal.invariant-loop-other
invariant-loop-other l = is_among (names_in l.names) l.name ≡ is_among (names_in (drop l.other-index l.names)) l.name
