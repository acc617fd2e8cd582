use Rattle.cg_gen_names_laws.proofs.Limits.{limits_are_kept}
use Rattle.cg_gen_names_laws.proofs.law.limits_are_kept.Goals as goal

pub returns : goal.returns
returns c = limits_are_kept
