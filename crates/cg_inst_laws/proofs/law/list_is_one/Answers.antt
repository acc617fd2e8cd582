use Rattle.cg_inst_laws.proofs.Sources.{list_is_one}
use Rattle.cg_inst_laws.proofs.law.list_is_one.Goals as goal

pub returns : goal.returns
returns c = list_is_one
