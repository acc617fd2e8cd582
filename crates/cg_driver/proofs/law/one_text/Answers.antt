use Rattle.cg_driver.proofs.Judging.{once}
use Rattle.cg_driver.proofs.law.one_text.Goals as goal

pub returns : goal.returns
returns c = once
