use Rattle.cg_certcheck_laws.proofs.Main.{decide}
use Rattle.cg_certcheck_laws.proofs.law.events_decide.Goals as goal

pub returns : goal.returns
returns c = decide
