use Rattle.std.proofs.Common.{sym}
use Rattle.cg_lower_nodes.proofs.PartSteps.{type_there, type_past}
use Rattle.cg_lower_nodes.proofs.parts.type_at.Goals as goal

pub returns-in-Some : goal.returns-in-Some
returns-in-Some c = type_there c.args.parts.now c.args.at c.in-Some.part.now (sym c.in-Some.ensures.value)

pub returns-in-None : goal.returns-in-None
returns-in-None c = type_past c.args.parts.now c.args.at (sym c.in-None.ensures.value)
