use Rattle.std.proofs.Common.{arith, ◌-◌}
use Rattle.cg_eval_machine.specs.Machine.{rest, context_of}
use Rattle.cg_eval_machine.proofs.Steps as steps
use Rattle.cg_eval_machine.proofs.calls.put_into.Goals as goal

pub returns-clause-gives : goal.returns-clause-gives
returns-clause-gives c = λ table.
    let e = steps.on_into table c.args.at c.args.term c.args.value (rest table c.args.m.now.frames.items) (context_of c.args.m.now) c.args.m.now.left (c.args.m.now.left - 1) (omega arith) in
    grind (arith, c.descend.ensures.gives table)
