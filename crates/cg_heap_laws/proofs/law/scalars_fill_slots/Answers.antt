use Rattle.cg_heap_laws.proofs.Slots.{holds_slots}
use Rattle.cg_heap_laws.proofs.law.scalars_fill_slots.Goals as goal

pub returns : goal.returns
returns c = holds_slots
