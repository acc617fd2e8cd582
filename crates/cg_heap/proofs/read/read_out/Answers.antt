use Rattle.cg_base.specs.Types.{type_of}
use Rattle.cg_heap.specs.Reps.{Holds}
use Rattle.cg_heap.specs.Stored.{cell_at}
use Rattle.cg_heap.proofs.Readers.{read_holds}
use Rattle.cg_heap.proofs.read.read_out.Goals as goal

pub returns : goal.returns
returns g c = λ world v holds first.
    let held : Holds world (λ q. cell_at (g.S.Store.stored c.args.store.now) q) (type_of c.args.ty.now) c.as_slice.result.now v = rw c.as_slice.ensures holds in
    rw (← read_holds world (λ q. cell_at (g.S.Store.stored c.args.store.now) q) (type_of c.args.ty.now) c.as_slice.result.now v first held) c.read.ensures
