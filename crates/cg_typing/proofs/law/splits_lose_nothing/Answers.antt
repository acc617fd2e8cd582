use Rattle.cg_typing.proofs.Sides.{lose_nothing}
use Rattle.cg_typing.proofs.law.splits_lose_nothing.Goals as goal

pub returns : goal.returns
returns c = lose_nothing
