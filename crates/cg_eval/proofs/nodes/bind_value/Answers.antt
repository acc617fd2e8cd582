use Rattle.std.proofs.Common.{arith}
use Rattle.cg_eval_machine.specs.Machine.{rest, context_of}
use Rattle.cg_eval.proofs.Begins as steps
use Rattle.cg_eval.proofs.nodes.bind_value.Goals as goal

pub returns-clause-gives : goal.returns-clause-gives
returns-clause-gives c = λ table note place.
    let e = steps.want_lets table note place c.args.value.now c.args.body.now c.deref-2.result.now c.deref.result (rest table c.args.m.now.frames.items) (context_of c.args.m.now) c.args.m.now.left c.deref-2.ensures c.deref.ensures in
    grind (arith, c.descend.ensures.gives table)
