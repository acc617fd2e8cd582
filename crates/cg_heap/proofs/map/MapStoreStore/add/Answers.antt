use Rattle.std.proofs.Common.{◌≡◌, ◌+◌, ap, ◌∙◌, arith}
use Rattle.std.specs.FinMap as map
use Rattle.cg_heap.specs.Mapped.{mapped}
use Rattle.cg_heap.proofs.Maps.{put_in}
use Rattle.cg_heap.proofs.Sounds.{sound_with}
use Rattle.cg_heap.proofs.map.MapStoreStore.add.Goals as goal

pub invariant_of-self-2 : goal.invariant_of-self-2
invariant_of-self-2 c =
    let small = c.requires in
    let top : c.self.inside.top ≡ c.args.self.now.top = ap (λ s. s.top) c.self.view_is in
    let now = put_in c.self.inside.cells c.put_at.new.cells (c.self.inside.top + 1) c.in_ok-cell.cell c.in_ok-put_at.ensures.ok in
    rw now
    (sound_with (mapped c.self.inside.cells.entries c.self.inside.top) (c.self.inside.top + 1) (c.self.inside.top + 1) c.in_ok-cell.cell c.self.invariant
    (omega arith) (omega arith) (omega arith) (omega arith) c.in_ok-cell.ensures.short)

pub returns-clause-ok : goal.returns-clause-ok
returns-clause-ok c =
    let now = put_in c.self.inside.cells c.put_at.new.cells (c.self.inside.top + 1) c.in_ok-cell.cell c.in_ok-put_at.ensures.ok in
    rw (← c.self.view_is)
    (ap (λ m. record { cells = m; top = c.self.inside.top + 1 })
    (now ∙ ap (map.insert (map.from_entries c.self.inside.cells.entries) (c.self.inside.top + 1)) c.in_ok-cell.ensures.cell))
