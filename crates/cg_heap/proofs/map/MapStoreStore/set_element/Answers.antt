use Rattle.std.proofs.Common.{sym, ap, ◌∙◌}
use Rattle.std.specs.Option.{option_copied_mut, is_some}
use Rattle.cg_heap.specs.Stored.{with_element}
use Rattle.cg_heap.specs.Mapped.{mapped}
use Rattle.cg_heap.proofs.Maps.{changed_is, unchanged_is, asked_is, asked_none}
use Rattle.cg_heap.proofs.Sounds.{sound_changed}
use Rattle.cg_heap.proofs.Shorter.{element_shorter}
use Rattle.cg_heap.proofs.map.MapStoreStore.set_element.Goals as goal
use Rattle.cg_heap.proofs.map.MapStoreStore.set_element.Goals.{in-Some, in-None}

pub invariant_of-self : goal.invariant_of-self
invariant_of-self c = elim c.match-get_mut.branch [
  | in-Some w ↦
      let found = sym c.get_mut.ensures.value ∙ ap option_copied_mut w.in-Some.is in
      let now = changed_is (with_element c.args.index c.args.value) c.args.at c.self.inside.cells (c.get_mut.follows.lender w.set_element.new.self) c.self.inside.top w.in-Some.cell.now w.set_element.new.self found w.set_element.ensures.cell (c.get_mut.follows.holds w.set_element.new.self) in
      rw (w.self-inside-is, now) (sound_changed (with_element c.args.index c.args.value) (element_shorter c.args.index c.args.value) c.args.at (mapped c.self.inside.cells.entries c.self.inside.top) c.self.invariant)
  | in-None w ↦
      let missed = sym c.get_mut.ensures.value ∙ ap option_copied_mut w.in-None.is in
      let now = unchanged_is (with_element c.args.index c.args.value) c.args.at c.self.inside.cells c.get_mut.follows.lender-at-none c.self.inside.top missed c.get_mut.follows.holds-at-none in
      rw (w.self-inside-is, now) (sound_changed (with_element c.args.index c.args.value) (element_shorter c.args.index c.args.value) c.args.at (mapped c.self.inside.cells.entries c.self.inside.top) c.self.invariant)
]

pub returns-clause-answer : goal.returns-clause-answer
returns-clause-answer c = elim c.match-get_mut.branch [
  | in-Some w ↦
      let found = sym c.get_mut.ensures.value ∙ ap option_copied_mut w.in-Some.is in
      rw (w.result-is, w.set_element.ensures.answer, ← c.self.view_is) (ap is_some (asked_is (with_element c.args.index c.args.value) c.args.at c.self.inside.cells.entries c.self.inside.top w.in-Some.cell.now found))
  | in-None w ↦
      let missed = sym c.get_mut.ensures.value ∙ ap option_copied_mut w.in-None.is in
      rw (w.result-is, ← c.self.view_is) (ap is_some (asked_none (with_element c.args.index c.args.value) c.args.at c.self.inside.cells.entries c.self.inside.top missed))
]

pub returns-clause-store : goal.returns-clause-store
returns-clause-store c = elim c.match-get_mut.branch [
  | in-Some w ↦
      let found = sym c.get_mut.ensures.value ∙ ap option_copied_mut w.in-Some.is in
      rw (w.self-inside-is, ← c.self.view_is) (changed_is (with_element c.args.index c.args.value) c.args.at c.self.inside.cells (c.get_mut.follows.lender w.set_element.new.self) c.self.inside.top w.in-Some.cell.now w.set_element.new.self found w.set_element.ensures.cell (c.get_mut.follows.holds w.set_element.new.self))
  | in-None w ↦
      let missed = sym c.get_mut.ensures.value ∙ ap option_copied_mut w.in-None.is in
      rw (w.self-inside-is, ← c.self.view_is) (unchanged_is (with_element c.args.index c.args.value) c.args.at c.self.inside.cells c.get_mut.follows.lender-at-none c.self.inside.top missed c.get_mut.follows.holds-at-none)
]
