use Rattle.std.proofs.Common.{length}
use Rattle.cg_driver_cases.proofs.evaluation.eval_text.Given as goal

abbrev pub decreases-loop-rest : goal.decreases-loop-rest
decreases-loop-rest l = length l.rest
