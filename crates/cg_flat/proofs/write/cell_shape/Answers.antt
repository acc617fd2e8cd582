use Rattle.cg_flat.proofs.Cells.{shape_slots}
use Rattle.cg_flat.proofs.write.cell_shape.Goals as goal

pub returns-in-Slots-clause-count : goal.returns-in-Slots-clause-count
returns-in-Slots-clause-count c = shape_slots _ _ _ c.in-Slots.is c.len.ensures
