use Rattle.cg_check_laws.proofs.Main.{bodies}
use Rattle.cg_check_laws.proofs.law.bodies_are_judged_exactly.Goals as goal

pub returns : goal.returns
returns c = bodies
