use Rattle.std.proofs.Common.{arith}
use Rattle.cg_inst.specs.Founds.{found_in}
use Rattle.cg_inst.specs.Judged.{core_in}
use Rattle.cg_inst.proofs.LimitSteps.{all_small}
use Rattle.cg_inst.proofs.limits.check_types.Goals as goal

pub returns : goal.returns
returns c = all_small (core_in c.args.checked.now) (found_in c.args.found.now) c.loop-at.at (omega (arith, c.len-at-end.ensures, c.loop-at-test.false)) c.loop-at.invariant
