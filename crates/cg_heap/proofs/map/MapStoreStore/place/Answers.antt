use Rattle.std.proofs.Common.{max, refl, arith}
use Rattle.cg_heap.specs.Mapped.{mapped}
use Rattle.cg_heap.proofs.Maps.{put_in}
use Rattle.cg_heap.proofs.Sounds.{sound_with}
use Rattle.cg_heap.proofs.map.MapStoreStore.place.Goals as goal

pub invariant_of-self-2 : goal.invariant_of-self-2
invariant_of-self-2 c =
    let small = c.self.invariant.small in
    let most = c.requires.most in
    let now = put_in c.self.inside.cells c.put_at.new.cells c.args.at c.args.cell c.in_ok-put_at.ensures.ok in
    rw (now, c.max-self-inside.ensures)
    (sound_with (mapped c.self.inside.cells.entries c.self.inside.top) c.args.at (max c.self.inside.top c.args.at) c.args.cell c.self.invariant c.requires.least
    (omega arith) (omega arith) (omega arith) c.requires.short)

pub returns-clause-ok : goal.returns-clause-ok
returns-clause-ok c =
    let now = put_in c.self.inside.cells c.put_at.new.cells c.args.at c.args.cell c.in_ok-put_at.ensures.ok in
    rw (now, c.max-self-inside.ensures, ← c.self.view_is) refl
