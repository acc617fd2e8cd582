use Rattle.cg_parser_laws.proofs.Items.{spelled_shaped}
use Rattle.cg_parser_laws.proofs.law.spelled_is_shaped.Goals as goal

pub returns : goal.returns
returns c = spelled_shaped
