use Rattle.cg_gen_typing_laws.proofs.Derived.{cores_are_derived}
use Rattle.cg_gen_typing_laws.proofs.law.cores_are_derived.Goals as goal

pub returns : goal.returns
returns c = cores_are_derived
