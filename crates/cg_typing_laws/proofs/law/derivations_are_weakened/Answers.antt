use Rattle.cg_typing_laws.proofs.Weakening.{weakening}
use Rattle.cg_typing_laws.proofs.law.derivations_are_weakened.Goals as goal

pub returns : goal.returns
returns c = weakening
