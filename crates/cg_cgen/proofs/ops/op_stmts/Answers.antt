use Rattle.cg_cgen.proofs.Operating.{computed_where}
use Rattle.cg_cgen.proofs.ops.op_stmts.Goals as goal

pub returns-clause-computes : goal.returns-clause-computes
returns-clause-computes c = computed_where c.args.op c.args.word c.args.to c.args.left c.args.right c.stmts.result c.stmts.ensures
