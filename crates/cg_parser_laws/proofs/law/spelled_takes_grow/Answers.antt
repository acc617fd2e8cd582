use Rattle.cg_parser_laws.proofs.ItemTakes.{spelled_growing}
use Rattle.cg_parser_laws.proofs.law.spelled_takes_grow.Goals as goal

pub returns : goal.returns
returns c = spelled_growing
