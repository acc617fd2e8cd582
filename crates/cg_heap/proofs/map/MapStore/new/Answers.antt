use Rattle.cg_heap.proofs.Sounds.{empty_sound}
use Rattle.cg_heap.proofs.map.MapStore.new.Goals as goal

pub invariant_of-result : goal.invariant_of-result
invariant_of-result c = rw c.new.ensures.empty empty_sound
