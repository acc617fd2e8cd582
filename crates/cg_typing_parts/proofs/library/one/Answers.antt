use Rattle.std.proofs.Common.{[], map, ap}
use Rattle.cg_base.specs.Types.{part_of}
use Rattle.cg_typing_parts.proofs.library.one.Goals as goal

pub returns : goal.returns
returns c = λ t h. c.add.ensures [] t (ap (map part_of) c.new.ensures) h
