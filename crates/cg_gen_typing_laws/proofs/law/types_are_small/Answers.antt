use Rattle.cg_gen_typing_laws.proofs.Small.{types_are_small}
use Rattle.cg_gen_typing_laws.proofs.law.types_are_small.Goals as goal

pub returns : goal.returns
returns c = types_are_small
