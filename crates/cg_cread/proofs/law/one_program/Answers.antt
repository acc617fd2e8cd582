use Rattle.cg_cread.proofs.One.{one_program}
use Rattle.cg_cread.proofs.law.one_program.Goals as goal

pub returns : goal.returns
returns c = one_program
