use Rattle.cg_check_laws.proofs.RecordsCases.{records}
use Rattle.cg_check_laws.proofs.law.record_cases.Goals as goal

pub returns : goal.returns
returns c = records
