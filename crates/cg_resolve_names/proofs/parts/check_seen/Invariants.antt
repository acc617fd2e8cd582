use Rattle.std.proofs.Common.{◌≡◌, [], take}
use Rattle.cg_resolve_def.specs.Faults.{seen_faults}
use Rattle.cg_resolve_names.proofs.parts.check_seen.Given as goal

abbrev pub invariant-loop-at : goal.invariant-loop-at
invariant-loop-at l = seen_faults l.scope (take l.at-index l.seen) ≡ []
