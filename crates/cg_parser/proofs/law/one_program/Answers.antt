use Rattle.cg_parser.proofs.One.{one_program}
use Rattle.cg_parser.proofs.law.one_program.Goals as goal

pub returns : goal.returns
returns c = one_program
