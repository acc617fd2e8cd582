use Rattle.std.proofs.Common.{arith, sym}
use Rattle.cg_certcheck_context.proofs.ContextSteps.{look_past}
use Rattle.cg_certcheck_context.proofs.context.entry_at.Goals as goal

pub returns-else-var-context : goal.returns-else-var-context
returns-else-var-context c vars = sym (look_past vars c.args.context.now c.args.var (omega arith))
