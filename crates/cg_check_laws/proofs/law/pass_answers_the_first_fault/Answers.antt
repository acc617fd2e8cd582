use Rattle.cg_check_laws.proofs.OnePass.{first_fault}
use Rattle.cg_check_laws.proofs.law.pass_answers_the_first_fault.Goals as goal

pub returns : goal.returns
returns c = first_fault
