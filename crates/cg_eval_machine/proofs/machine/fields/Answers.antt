use Rattle.std.proofs.Common.{arith}
use Rattle.cg_value.specs.declared.value.Value.{the_lemmas}
use Rattle.cg_eval_machine.proofs.Steps as steps
use Rattle.cg_eval_machine.proofs.machine.fields.Goals as goal

pub returns-then-terms-eq0-clause-gives : goal.returns-then-terms-eq0-clause-gives
returns-then-terms-eq0-clause-gives c = λ table. grind (arith, the_lemmas, steps.all_none)

pub returns-clause-gives : goal.returns-clause-gives
returns-clause-gives c = λ table. grind (arith, steps.all_more, c.descend.ensures.gives table)
