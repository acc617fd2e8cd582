use Rattle.cg_parser_exprs_laws.proofs.Exactly.{open_exactly}
use Rattle.cg_parser_exprs_laws.proofs.law.open_exactly.Goals as goal

pub returns : goal.returns
returns c = open_exactly
