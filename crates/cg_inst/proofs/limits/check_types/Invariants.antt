use Rattle.cg_inst.specs.Founds.{found_in}
use Rattle.cg_inst.specs.Judged.{core_in}
use Rattle.cg_inst.specs.Limited.{HaveSmallTypesUntil}
use Rattle.cg_inst.proofs.limits.check_types.Given as goal

abbrev pub invariant-loop-at : goal.invariant-loop-at
invariant-loop-at l = HaveSmallTypesUntil (core_in l.checked) (found_in l.found) l.at
