use Rattle.std.proofs.Common.{arith}
use Rattle.cg_eval_machine.specs.Machine.{rest, context_of}
use Rattle.cg_eval.proofs.Begins as steps
use Rattle.cg_eval.proofs.nodes.unwrap.Goals as goal

pub returns-clause-gives : goal.returns-clause-gives
returns-clause-gives c = λ table note at.
    let e = steps.want_esac table note at c.args.value.now c.deref.result.now (rest table c.args.m.now.frames.items) (context_of c.args.m.now) c.args.m.now.left c.deref.ensures in
    grind (arith, c.descend.ensures.gives table)
