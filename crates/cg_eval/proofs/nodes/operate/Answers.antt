use Rattle.std.proofs.Common.{arith}
use Rattle.cg_eval_machine.specs.Machine.{rest, context_of}
use Rattle.cg_eval.proofs.Begins as steps
use Rattle.cg_eval.proofs.nodes.operate.Goals as goal
use Rattle.cg_eval.proofs.nodes.operate.Goals.{in_default-via-then-operands-lt1, in_default-via-else-operands-lt1+else-operands-lt2+else-operands-lt3}

pub returns-in-len1-clause-gives : goal.returns-in-len1-clause-gives
returns-in-len1-clause-gives c = λ table note. grind (arith, c.descend.ensures.gives table, steps.want_one table note c.args.op c.args.operands.now c.operand-item.result)

pub returns-in-len2-clause-gives : goal.returns-in-len2-clause-gives
returns-in-len2-clause-gives c = λ table note. grind (arith, c.descend-in-len2.ensures.gives table, steps.want_two table note c.args.op c.args.operands.now c.left-item.result)

pub returns-in_default-clause-gives : goal.returns-in_default-clause-gives
returns-in_default-clause-gives c = λ table note.
    steps.no_operands table note c.args.op c.args.operands.now (rest table c.args.m.now.frames.items (context_of c.args.m.now)) (context_of c.args.m.now) c.args.m.now.left
    (λ one. elim c.in_default.branch [ in_default-via-then-operands-lt1 w ↦ grind arith | in_default-via-else-operands-lt1+else-operands-lt2+else-operands-lt3 w ↦ grind arith ])
    (λ two. elim c.in_default.branch [ in_default-via-then-operands-lt1 w ↦ grind arith | in_default-via-else-operands-lt1+else-operands-lt2+else-operands-lt3 w ↦ grind arith ])
