use Rattle.cg_cmachine_laws.proofs.Names.{names_do_not_matter}
use Rattle.cg_cmachine_laws.proofs.law.names_do_not_matter.Goals as goal

pub returns : goal.returns
returns c = names_do_not_matter
