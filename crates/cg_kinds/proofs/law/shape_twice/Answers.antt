use Rattle.cg_kinds.proofs.ShapeLaws.{shape_twice}
use Rattle.cg_kinds.proofs.law.shape_twice.Goals as goal

pub returns : goal.returns
returns c = shape_twice
