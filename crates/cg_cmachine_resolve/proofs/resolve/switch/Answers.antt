use Rattle.cg_cmachine_resolve.specs.Variables.{scope_at}
use Rattle.cg_cmachine_resolve.proofs.resolve.switch.Goals as goal

pub returns-clause-does : goal.returns-clause-does
returns-clause-does c = (c.operand.ensures, c.in_ok-cases.ensures.cases c.args.setting.now.whole (scope_at c.args.setting.now))
