use Rattle.cg_heaptext_judge_laws.proofs.Whole.{runs_judge}
use Rattle.cg_heaptext_judge_laws.proofs.law.runs_judge.Goals as goal

pub returns : goal.returns
returns c = runs_judge
