use Rattle.std.proofs.Common.{◌≡◌, ◌++◌, drop}
use Rattle.cg_cmachine_layout.specs.Tables.{targets}
use Rattle.cg_cmachine_layout.proofs.circles.targets.Given as goal

abbrev pub invariant-loop-member : goal.invariant-loop-member
invariant-loop-member l = l.found.items ++ targets l.names (drop l.member-index l.members) ≡ targets l.names l.members
