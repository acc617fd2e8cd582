use Rattle.cg_typing_laws.proofs.Types.{subst_twice}
use Rattle.cg_typing_laws.proofs.law.substitutions_compose.Goals as goal

pub returns : goal.returns
returns c = subst_twice
