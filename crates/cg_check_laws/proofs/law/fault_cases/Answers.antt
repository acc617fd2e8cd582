use Rattle.cg_check_laws.proofs.FaultCases.{faults}
use Rattle.cg_check_laws.proofs.law.fault_cases.Goals as goal

pub returns : goal.returns
returns c = faults
