use Rattle.std.proofs.Common.{◌≤◌, length}
use Rattle.cg_heap.specs.Stored.{cell_at}
use Rattle.cg_heap.proofs.ReadSteps.{elements_at}
use Rattle.cg_heap.proofs.read.read_abstract.Goals as goal

pub returns-in-len1-up : goal.returns-in-len1-up
returns-in-len1-up g c =
    let some : 1 ≤ length c.args.args.now = rw (← c.as_slice.ensures) c.in-len1-up.len_at_least in
    rw (elements_at c.args.args.now (cell_at (g.S.Store.stored c.args.store.now) c.args.at) some) c.read_elements.ensures
