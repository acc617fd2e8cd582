use Rattle.cg_kinds.proofs.ShapeLaws.{shape_of_bang}
use Rattle.cg_kinds.proofs.law.shape_of_bang.Goals as goal

pub returns : goal.returns
returns c = shape_of_bang
