use Rattle.cg_certcheck_laws.proofs.PassKernel.{first_fault}
use Rattle.cg_certcheck_laws.proofs.law.pass_answers_the_first_fault.Goals as goal

pub returns : goal.returns
returns c = first_fault
