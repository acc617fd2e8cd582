use Rattle.std.proofs.Common.{◌≡◌, drop}
use Rattle.cg_cmachine_layout.specs.Tables.{any_reaches}
use Rattle.cg_cmachine_layout.proofs.circles.reaches.Given as goal

abbrev pub invariant-loop-target : goal.invariant-loop-target
invariant-loop-target l = any_reaches l.goal l.marks (drop l.target-index l.targets) ≡ any_reaches l.goal l.marks l.targets
