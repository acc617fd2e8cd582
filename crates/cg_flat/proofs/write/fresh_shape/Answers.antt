use Rattle.cg_flat.proofs.Cells.{fresh_slots}
use Rattle.cg_flat.proofs.write.fresh_shape.Goals as goal

pub returns-in-Slots-clause-count : goal.returns-in-Slots-clause-count
returns-in-Slots-clause-count c = fresh_slots _ _ c.in-Slots.is
