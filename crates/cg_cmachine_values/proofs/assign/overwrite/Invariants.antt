use Rattle.std.proofs.Common.{◌≡◌, take}
use Rattle.cg_cmachine_values.specs.Values.{overwritten}
use Rattle.cg_cmachine_values.proofs.assign.overwrite.Given as goal

abbrev pub invariant-loop-i : goal.invariant-loop-i
invariant-loop-i l = l.slots ≡ overwritten l.at (take l.i l.scalars) l.initial.slots
