use Rattle.std.proofs.Common.{◌≡◌, map, take}
use Rattle.cg_cgen_def.specs.Places.{step_name}
use Rattle.cg_cgen_lines.specs.Views.{step_of}
use Rattle.cg_cgen_lines.proofs.paths.members.Given as goal

abbrev pub invariant-loop-step : goal.invariant-loop-step
invariant-loop-step l = l.names ≡ map step_name (map step_of (take l.step-index l.steps))
