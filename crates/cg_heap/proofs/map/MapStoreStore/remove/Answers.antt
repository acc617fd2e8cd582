use Rattle.std.proofs.Common.{sym, ap, ◌∙◌}
use Rattle.std.specs.Option.{is_some}
use Rattle.cg_heap.specs.Mapped.{mapped}
use Rattle.cg_heap.proofs.Maps.{held_at, taken_out}
use Rattle.cg_heap.proofs.Sounds.{sound_without}
use Rattle.cg_heap.proofs.map.MapStoreStore.remove.Goals as goal
use Rattle.cg_heap.proofs.map.MapStoreStore.remove.Goals.{in-Some, in-None}

pub invariant_of-self : goal.invariant_of-self
invariant_of-self c =
    let now = taken_out c.self.inside.cells c.remove.new.self c.args.at c.remove.ensures.updates in
    rw now (sound_without (mapped c.self.inside.cells.entries c.self.inside.top) c.args.at c.self.invariant)

pub returns-clause-answer : goal.returns-clause-answer
returns-clause-answer c = elim c.match-remove.branch [
  | in-Some w ↦ rw (w.result-is, ← c.self.view_is) (ap is_some (sym (held_at c.self.inside.cells.entries c.args.at ∙ sym c.remove.ensures.value ∙ w.in-Some.is)))
  | in-None w ↦ rw (w.result-is, ← c.self.view_is) (ap is_some (sym (held_at c.self.inside.cells.entries c.args.at ∙ sym c.remove.ensures.value ∙ w.in-None.is)))
]

pub returns-clause-store : goal.returns-clause-store
returns-clause-store c =
    rw (← c.self.view_is) (ap (λ m. record { cells = m; top = c.self.inside.top }) (taken_out c.self.inside.cells c.remove.new.self c.args.at c.remove.ensures.updates))
