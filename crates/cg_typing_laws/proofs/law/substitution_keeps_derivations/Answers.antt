use Rattle.cg_typing_laws.proofs.Substitution.{substitution}
use Rattle.cg_typing_laws.proofs.law.substitution_keeps_derivations.Goals as goal

pub returns : goal.returns
returns c = substitution
