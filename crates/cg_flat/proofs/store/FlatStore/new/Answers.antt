use Rattle.std.specs.Vec.{vec_capacity}
use Rattle.cg_flat.proofs.Needs.{kept_nothing}
use Rattle.cg_flat.proofs.store.FlatStore.new.Goals as goal

pub invariant_of-result : goal.invariant_of-result
invariant_of-result c = kept_nothing c.new.result.items c.new-2.result.entries c.new-3.result.items c.new-4.result.items (vec_capacity c.new-4.result) c.new.ensures.items c.new-2.ensures.empty c.new-3.ensures.items c.new-4.ensures.items
