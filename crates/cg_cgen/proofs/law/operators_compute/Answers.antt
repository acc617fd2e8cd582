use Rattle.cg_cgen.proofs.law.operators_compute.Goals as goal
use Rattle.cg_cgen.proofs.Operating.{operators_compute}

pub returns : goal.returns
returns c = operators_compute
