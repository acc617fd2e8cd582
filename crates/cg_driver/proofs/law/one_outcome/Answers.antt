use Rattle.cg_driver.proofs.Judging.{single}
use Rattle.cg_driver.proofs.law.one_outcome.Goals as goal

pub returns : goal.returns
returns c = single
