use Rattle.std.proofs.Common.{arith}
use Rattle.cg_value.specs.declared.value.Value.{the_lemmas}
use Rattle.cg_eval_machine.proofs.calls.call.Goals as goal

pub returns-in-Fun-User-default-clause-gives : goal.returns-in-Fun-User-default-clause-gives
returns-in-Fun-User-default-clause-gives c = λ x. grind (arith, the_lemmas, c.enter.ensures.gives x)
