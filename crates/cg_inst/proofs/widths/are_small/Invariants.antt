use Rattle.std.proofs.Common.{map}
use Rattle.cg_inst.specs.Measured.{IsSmallBy, width_in}
use Rattle.cg_inst_types.specs.Layers.{types_at}
use Rattle.cg_inst.proofs.LimitSteps.{Until}
use Rattle.cg_inst.proofs.widths.are_small.Given as goal

abbrev pub invariant-loop-width : goal.invariant-loop-width
invariant-loop-width l = Until (IsSmallBy (types_at l.table l.types)) (map width_in l.widths) l.width-index
