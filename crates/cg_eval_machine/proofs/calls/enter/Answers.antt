use Rattle.std.proofs.Common.{arith}
use Rattle.cg_eval_def.specs.Foreigns.{table_of}
use Rattle.cg_eval_machine.proofs.calls.enter.Goals as goal

pub returns-in_ok-values-in-Some-clause-gives : goal.returns-in_ok-values-in-Some-clause-gives
returns-in_ok-values-in-Some-clause-gives c = λ x. grind (arith, c.begin_call.ensures.gives (table_of x c.args.checked.now))
