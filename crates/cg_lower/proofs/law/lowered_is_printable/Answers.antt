use Rattle.cg_lower.proofs.Programs.{lowered_is_printable}
use Rattle.cg_lower.proofs.law.lowered_is_printable.Goals as goal

pub returns : goal.returns
returns c = lowered_is_printable
