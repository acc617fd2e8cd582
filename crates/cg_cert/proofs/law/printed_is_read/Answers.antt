use Rattle.cg_cert.proofs.Printed.{printed}
use Rattle.cg_cert.proofs.law.printed_is_read.Goals as goal

pub returns : goal.returns
returns c = printed
