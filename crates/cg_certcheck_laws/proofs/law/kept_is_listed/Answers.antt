use Rattle.cg_certcheck_laws.proofs.Main.{kept_listed}
use Rattle.cg_certcheck_laws.proofs.law.kept_is_listed.Goals as goal

pub returns : goal.returns
returns c = kept_listed
