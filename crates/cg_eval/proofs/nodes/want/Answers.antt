use Rattle.std.proofs.Common.{arith}
use Rattle.cg_eval.proofs.Begins as steps
use Rattle.cg_eval.proofs.nodes.want.Goals as goal

pub returns-clause-gives : goal.returns-clause-gives
returns-clause-gives c = λ table. grind (arith, steps.want_node, c.begin.ensures.gives table)
