use Rattle.cg_gen_typing_laws.proofs.Listed.{instances_are_within}
use Rattle.cg_gen_typing_laws.proofs.law.instances_are_within.Goals as goal

pub returns : goal.returns
returns c = instances_are_within
