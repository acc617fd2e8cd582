use Rattle.cg_check_laws.proofs.RecordsCases.{sighted_refused}
use Rattle.cg_check_laws.proofs.law.sighted_case.Goals as goal

pub returns : goal.returns
returns c = sighted_refused
