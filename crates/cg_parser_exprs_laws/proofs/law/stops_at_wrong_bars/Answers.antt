use Rattle.cg_parser_exprs_laws.proofs.Exactly.{stops_at_wrong_bars}
use Rattle.cg_parser_exprs_laws.proofs.law.stops_at_wrong_bars.Goals as goal

pub returns : goal.returns
returns c = stops_at_wrong_bars
