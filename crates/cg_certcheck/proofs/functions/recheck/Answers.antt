use Rattle.cg_certcheck.proofs.JudgeSteps.{is_rechecked}
use Rattle.cg_certcheck.proofs.functions.recheck.Goals as goal

pub returns-in-Ok : goal.returns-in-Ok
returns-in-Ok c =
    is_rechecked c.args.kernel c.args.cert.now c.in-Ok.field-0 c.requires.lawful c.in-Ok.ensures c.new.result c.new.ensures.kernel c.new.ensures.cores c.new.ensures.trees
