use Rattle.cg_typing.proofs.Sides.{goes_one_way}
use Rattle.cg_typing.proofs.law.linear_goes_one_way.Goals as goal

pub returns : goal.returns
returns c = goes_one_way
