use Rattle.std.proofs.Common.{arith}
use Rattle.std.specs.List.{take-map}
use Rattle.cg_eval_machine.proofs.Steps as steps
use Rattle.cg_eval_machine.proofs.calls.leave.Goals as goal

pub returns-clause-gives : goal.returns-clause-gives
returns-clause-gives c = λ table. grind (arith, steps.on_leave, take-map)
