use Rattle.std.proofs.Common.{arith}
use Rattle.cg_eval_machine.specs.Machine.{rest, context_of}
use Rattle.cg_value.specs.Values.{value_of}
use Rattle.cg_eval_machine.proofs.Steps as steps
use Rattle.cg_eval_machine.proofs.calls.take_arm.Goals as goal

pub returns-then-has_name-clause-gives : goal.returns-then-has_name-clause-gives
returns-then-has_name-clause-gives c = λ table.
    let e = steps.on_arms table c.args.name c.args.found c.args.other (value_of c.args.value) (rest table c.args.m.now.frames.items) (context_of c.args.m.now) c.args.m.now.left in
    grind (arith, c.with_one.ensures.gives table)

pub returns-else-has_name-clause-gives : goal.returns-else-has_name-clause-gives
returns-else-has_name-clause-gives c = λ table.
    let e = steps.on_arms table c.args.name c.args.found c.args.other (value_of c.args.value) (rest table c.args.m.now.frames.items) (context_of c.args.m.now) c.args.m.now.left in
    grind (arith, c.with_one-else-has_name.ensures.gives table)
