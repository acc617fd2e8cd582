use Rattle.std.proofs.Common.{◌≡◌}
use Rattle.cg_inst.specs.Founds.{found_in}
use Rattle.cg_inst.specs.Judged.{core_in, functions_in}
use Rattle.cg_inst.specs.Lists.{after}
use Rattle.cg_inst.proofs.search.find_into.Given as goal

abbrev pub invariant-loop-at : goal.invariant-loop-at
invariant-loop-at l = found_in l.found ≡ after (functions_in l.checked) (core_in l.checked) l.at
