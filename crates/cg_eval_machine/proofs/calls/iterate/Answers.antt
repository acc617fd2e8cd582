use Rattle.std.proofs.Common.{arith}
use Rattle.cg_eval_machine.proofs.calls.iterate.Goals as goal

pub returns-clause-gives : goal.returns-clause-gives
returns-clause-gives c = λ x. grind (arith, c.take_turns.ensures.gives x)
