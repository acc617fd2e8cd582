use Rattle.cg_faults_laws.proofs.Occurring.{kernels_are_accepted_or_at_fault}
use Rattle.cg_faults_laws.proofs.law.kernels_are_accepted_or_at_fault.Goals as goal

pub returns : goal.returns
returns c = kernels_are_accepted_or_at_fault
