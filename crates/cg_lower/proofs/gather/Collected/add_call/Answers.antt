use Rattle.std.proofs.Common.{arith, refl}
use Rattle.cg_core.specs.declared.term.Form.{the_lemmas}
use Rattle.cg_lower.proofs.CollectSteps.{grown_empty}
use Rattle.cg_lower.proofs.gather.Collected.add_call.Goals as goal
use Rattle.cg_core.proofs.Operands.{core_is}

pub returns-in-Fun : goal.returns-in-Fun
returns-in-Fun c = grown_empty _ _ _ _ refl (grind (arith, core_is, the_lemmas, c.in-Fun.is))
