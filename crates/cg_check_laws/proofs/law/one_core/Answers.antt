use Rattle.cg_check_laws.proofs.Main.{one_core}
use Rattle.cg_check_laws.proofs.law.one_core.Goals as goal

pub returns : goal.returns
returns c = one_core
