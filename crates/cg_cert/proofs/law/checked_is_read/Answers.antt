use Rattle.cg_cert.proofs.Printed.{checked_printed}
use Rattle.cg_cert.proofs.law.checked_is_read.Goals as goal

pub returns : goal.returns
returns c = checked_printed
