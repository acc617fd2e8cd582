use Rattle.cg_check_laws.proofs.Main.{marks_serve}
use Rattle.cg_check_laws.proofs.law.occurrence_marks_serve.Goals as goal

pub returns : goal.returns
returns c = marks_serve
