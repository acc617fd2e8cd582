use Rattle.cg_driver.proofs.Accepting.{built_source}
use Rattle.cg_driver.proofs.law.build_writes_both.Goals as goal

pub returns : goal.returns
returns c = built_source
