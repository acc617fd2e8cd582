use Rattle.cg_certcheck_laws.proofs.BrokenRow.{broken_row}
use Rattle.cg_certcheck_laws.proofs.law.broken_row.Goals as goal

pub returns : goal.returns
returns c = broken_row
