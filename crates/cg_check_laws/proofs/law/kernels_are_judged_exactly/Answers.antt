use Rattle.cg_check_laws.proofs.Main.{kernels}
use Rattle.cg_check_laws.proofs.law.kernels_are_judged_exactly.Goals as goal

pub returns : goal.returns
returns c = kernels
