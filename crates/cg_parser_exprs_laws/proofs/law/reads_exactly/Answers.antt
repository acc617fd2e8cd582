use Rattle.cg_parser_exprs_laws.proofs.Exactly.{reads_exactly}
use Rattle.cg_parser_exprs_laws.proofs.law.reads_exactly.Goals as goal

pub returns : goal.returns
returns c = reads_exactly
