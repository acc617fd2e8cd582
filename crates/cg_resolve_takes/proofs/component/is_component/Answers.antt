use Rattle.std.proofs.Common.{◌∙◌, arith}
use Rattle.cg_resolve_takes.proofs.ComponentSteps.{numbered_is}
use Rattle.cg_resolve_takes.proofs.component.is_component.Goals as goal

pub returns : goal.returns
returns c = c.is_numbered.ensures ∙ numbered_is c.args.count c.args.name.now (omega arith)
