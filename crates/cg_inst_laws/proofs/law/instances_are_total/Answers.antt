use Rattle.cg_inst_laws.proofs.Sources.{instances_are_total}
use Rattle.cg_inst_laws.proofs.law.instances_are_total.Goals as goal

pub returns : goal.returns
returns c = instances_are_total
