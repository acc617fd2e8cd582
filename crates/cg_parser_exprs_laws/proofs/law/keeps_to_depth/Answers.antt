use Rattle.cg_parser_exprs_laws.proofs.Exactly.{keeps_to_depth}
use Rattle.cg_parser_exprs_laws.proofs.law.keeps_to_depth.Goals as goal

pub returns : goal.returns
returns c = keeps_to_depth
