use Rattle.cg_typing_laws.proofs.CasesHold.{substituted}
use Rattle.cg_typing_laws.proofs.law.substitution_cases.Goals as goal

pub returns : goal.returns
returns c = substituted
