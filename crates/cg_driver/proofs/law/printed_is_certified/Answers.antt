use Rattle.cg_driver.proofs.Printing.{printed_certified}
use Rattle.cg_driver.proofs.law.printed_is_certified.Goals as goal

pub returns : goal.returns
returns c = printed_certified
