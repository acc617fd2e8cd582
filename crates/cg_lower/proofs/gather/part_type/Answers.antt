use Rattle.std.proofs.Common.{sym}
use Rattle.cg_lower.proofs.CollectSteps.{part_there, part_past}
use Rattle.cg_lower.proofs.gather.part_type.Goals as goal

pub returns-in-Some : goal.returns-in-Some
returns-in-Some c = part_there c.args.parts.now c.args.at c.in-Some.part.now (sym c.in-Some.ensures.value)

pub returns-in-None : goal.returns-in-None
returns-in-None c = part_past c.args.parts.now c.args.at (sym c.in-None.ensures.value)
