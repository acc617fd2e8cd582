use Rattle.cg_check_laws.proofs.Main.{kept}
use Rattle.cg_check_laws.proofs.law.normal_forms_are_kept.Goals as goal

pub returns : goal.returns
returns c = kept
