use Rattle.cg_check_laws.proofs.RecordsCases.{type_too_large}
use Rattle.cg_check_laws.proofs.law.type_limit_case.Goals as goal

pub returns : goal.returns
returns c = type_too_large
