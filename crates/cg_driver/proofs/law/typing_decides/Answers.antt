use Rattle.cg_driver.proofs.Judging.{typing_decides}
use Rattle.cg_driver.proofs.law.typing_decides.Goals as goal

pub returns : goal.returns
returns c = typing_decides
