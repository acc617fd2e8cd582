use Rattle.cg_graphs.proofs.Before.{is_order}
use Rattle.cg_graphs.proofs.law.mentions_stand_before.Goals as goal

pub returns : goal.returns
returns c = λ edges closed none. is_order edges closed none
