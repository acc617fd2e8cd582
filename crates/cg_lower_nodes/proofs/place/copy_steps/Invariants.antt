use Rattle.std.proofs.Common.{◌≡◌, take}
use Rattle.cg_lower_nodes.proofs.place.copy_steps.Given as goal

abbrev pub invariant-loop-step : goal.invariant-loop-step
invariant-loop-step l = l.copies ≡ take l.step-index l.step-items
