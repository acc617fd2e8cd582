use Rattle.cg_parser_laws.proofs.Spelling.{spelled_named}
use Rattle.cg_parser_laws.proofs.law.spelled_is_named.Goals as goal

pub returns : goal.returns
returns c = spelled_named
