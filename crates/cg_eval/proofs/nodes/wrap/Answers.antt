use Rattle.std.proofs.Common.{arith, ◌-◌}
use Rattle.cg_core.specs.Kernels.{the_core}
use Rattle.cg_eval_machine.specs.Machine.{rest, context_of}
use Rattle.cg_eval.proofs.Begins as steps
use Rattle.cg_eval.proofs.nodes.wrap.Goals as goal

pub returns-clause-gives : goal.returns-clause-gives
returns-clause-gives c = λ table note.
    let e = steps.want_con table note c.args.name (the_core c.args.payload.now) (rest table c.args.m.now.frames.items) (context_of c.args.m.now) c.args.m.now.left
    (c.args.m.now.left - 1) (omega arith) in
    grind (arith, c.descend.ensures.gives table)
