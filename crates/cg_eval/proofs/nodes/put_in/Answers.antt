use Rattle.std.proofs.Common.{arith}
use Rattle.cg_eval_machine.specs.Machine.{rest, context_of}
use Rattle.cg_eval.proofs.Begins as steps
use Rattle.cg_eval.proofs.nodes.put_in.Goals as goal

pub returns-clause-gives : goal.returns-clause-gives
returns-clause-gives c = λ table note.
    let e = steps.want_put table note c.args.whole.now c.args.at.now c.args.value.now c.deref-3.result.now c.deref-2.result c.position-place.result (rest table c.args.m.now.frames.items) (context_of c.args.m.now) c.args.m.now.left c.deref-3.ensures
    c.deref-2.ensures (grind (arith, c.position-place.ensures, c.deref.ensures, c.deref-3.ensures)) in
    grind (arith, c.descend.ensures.gives table)
