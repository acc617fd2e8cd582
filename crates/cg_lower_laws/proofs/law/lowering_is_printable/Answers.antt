use Rattle.cg_lower_laws.proofs.Printing.{lowering_is_printable}
use Rattle.cg_lower_laws.proofs.law.lowering_is_printable.Goals as goal

pub returns : goal.returns
returns c = lowering_is_printable
