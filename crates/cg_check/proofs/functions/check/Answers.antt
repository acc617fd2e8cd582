use Rattle.cg_check.proofs.JudgeSteps.{is_checked}
use Rattle.cg_check.proofs.functions.check.Goals as goal

pub returns-in-Ok : goal.returns-in-Ok
returns-in-Ok c = is_checked c.args.kernel c.in-Ok.field-0 c.requires.lawful c.in-Ok.ensures c.new.result c.new.ensures.kernel c.new.ensures.cores c.new.ensures.trees
