use Rattle.std.proofs.Common.{sym, ap, ◌∙◌}
use Rattle.std.specs.Option.{option_copied_mut}
use Rattle.cg_heap.specs.Stored.{answer_of, without_answer}
use Rattle.cg_heap.specs.Mapped.{mapped}
use Rattle.cg_heap.proofs.Maps.{changed_is, unchanged_is, asked_is, asked_none}
use Rattle.cg_heap.proofs.Sounds.{sound_changed}
use Rattle.cg_heap.proofs.Shorter.{answer_shorter}
use Rattle.cg_heap.proofs.map.MapStoreStore.pop.Goals as goal
use Rattle.cg_heap.proofs.map.MapStoreStore.pop.Goals.{in-Some, in-None}

pub invariant_of-self : goal.invariant_of-self
invariant_of-self c = elim c.match-get_mut.branch [
  | in-Some w ↦
      let found = sym c.get_mut.ensures.value ∙ ap option_copied_mut w.in-Some.is in
      let now = changed_is without_answer c.args.at c.self.inside.cells (c.get_mut.follows.lender w.pop.new.self) c.self.inside.top w.in-Some.cell.now w.pop.new.self found w.pop.ensures.cell (c.get_mut.follows.holds w.pop.new.self) in
      rw (w.self-inside-is, now) (sound_changed without_answer answer_shorter c.args.at (mapped c.self.inside.cells.entries c.self.inside.top) c.self.invariant)
  | in-None w ↦
      let missed = sym c.get_mut.ensures.value ∙ ap option_copied_mut w.in-None.is in
      let now = unchanged_is without_answer c.args.at c.self.inside.cells c.get_mut.follows.lender-at-none c.self.inside.top missed c.get_mut.follows.holds-at-none in
      rw (w.self-inside-is, now) (sound_changed without_answer answer_shorter c.args.at (mapped c.self.inside.cells.entries c.self.inside.top) c.self.invariant)
]

pub returns-clause-answer : goal.returns-clause-answer
returns-clause-answer c = elim c.match-get_mut.branch [
  | in-Some w ↦
      let found = sym c.get_mut.ensures.value ∙ ap option_copied_mut w.in-Some.is in
      rw (w.result-is, w.pop.ensures.answer, ← c.self.view_is) (asked_is (answer_of 0) c.args.at c.self.inside.cells.entries c.self.inside.top w.in-Some.cell.now found)
  | in-None w ↦
      let missed = sym c.get_mut.ensures.value ∙ ap option_copied_mut w.in-None.is in
      rw (w.result-is, ← c.self.view_is) (asked_none (answer_of 0) c.args.at c.self.inside.cells.entries c.self.inside.top missed)
]

pub returns-clause-store : goal.returns-clause-store
returns-clause-store c = elim c.match-get_mut.branch [
  | in-Some w ↦
      let found = sym c.get_mut.ensures.value ∙ ap option_copied_mut w.in-Some.is in
      rw (w.self-inside-is, ← c.self.view_is) (changed_is without_answer c.args.at c.self.inside.cells (c.get_mut.follows.lender w.pop.new.self) c.self.inside.top w.in-Some.cell.now w.pop.new.self found w.pop.ensures.cell (c.get_mut.follows.holds w.pop.new.self))
  | in-None w ↦
      let missed = sym c.get_mut.ensures.value ∙ ap option_copied_mut w.in-None.is in
      rw (w.self-inside-is, ← c.self.view_is) (unchanged_is without_answer c.args.at c.self.inside.cells c.get_mut.follows.lender-at-none c.self.inside.top missed c.get_mut.follows.holds-at-none)
]
