use Rattle.cg_graphs.proofs.Marked.{marks_are_there}
use Rattle.cg_graphs.proofs.law.marks_are_there.Goals as goal

pub returns : goal.returns
returns c = marks_are_there
