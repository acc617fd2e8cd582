use Rattle.std.proofs.Common.{arith}
use Rattle.cg_eval_machine.specs.Machine.{rest, context_of}
use Rattle.cg_eval.proofs.Begins as steps
use Rattle.cg_eval.proofs.nodes.choose.Goals as goal

pub returns-clause-gives : goal.returns-clause-gives
returns-clause-gives c = λ table note.
    let e = steps.want_if table note c.args.test.now c.args.yes.now c.args.no.now c.deref-3.result.now c.deref.result c.deref-2.result (rest table c.args.m.now.frames.items) (context_of c.args.m.now) c.args.m.now.left c.deref-3.ensures c.deref.ensures c.deref-2.ensures in
    grind (arith, c.descend.ensures.gives table)
