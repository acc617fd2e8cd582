use Rattle.cg_typing_laws.proofs.Types.{subst_bang}
use Rattle.cg_typing_laws.proofs.law.bang_is_substituted.Goals as goal

pub returns : goal.returns
returns c = subst_bang
