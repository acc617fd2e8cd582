use Rattle.cg_typing_laws.proofs.CasesHold.{weakened_case}
use Rattle.cg_typing_laws.proofs.law.weakening_cases.Goals as goal

pub returns : goal.returns
returns c = weakened_case
