use Rattle.std.proofs.Common.{sym, ap, ◌∙◌, ◌+◌, ◌*◌}
use Rattle.std.specs.Option.{is_some}
use Rattle.cg_heap.specs.Stored.{with_slot}
use Rattle.cg_flat.specs.Flat.{over, scalar_words, start_at}
use Rattle.cg_flat.specs.Seen.{seen}
use Rattle.cg_flat.specs.Settled.{settled}
use Rattle.cg_flat.proofs.Calls.{slot_done}
use Rattle.cg_flat.proofs.Counts.{within_words}
use Rattle.cg_flat.proofs.Steps.{done_none}
use Rattle.cg_flat.proofs.Stores.{asked_none, asked_some}
use Rattle.cg_flat.proofs.store.FlatStoreStore.set_field.Goals as goal

pub write_slot-requires : goal.write_slot-requires
write_slot-requires c = within_words (seen c.self.inside.words.items c.self.inside.spans.entries (settled c.self.inside.freed.items c.self.inside.holes.items) c.self.inside.top) c.args.at c.in-Some.span c.self.invariant.flat (sym c.span_at.ensures ∙ c.in-Some.is)

pub invariant_of-self : goal.invariant_of-self
invariant_of-self c = record {
  flat = (slot_done (seen c.self.inside.words.items c.self.inside.spans.entries (settled c.self.inside.freed.items c.self.inside.holes.items) c.self.inside.top) c.args.at c.args.slot c.args.value c.in-Some.span c.write_slot.result c.write_slot.new.words.items c.self.invariant.flat (sym c.span_at.ensures ∙ c.in-Some.is) c.write_slot.ensures.answer c.write_slot.ensures.words).flat;
  free = c.self.invariant.free;
  room = c.self.invariant.room;
  short = c.self.invariant.short;
}

pub returns-in-Some-clause-store : goal.returns-in-Some-clause-store
returns-in-Some-clause-store c = rw (← c.self.view_is) (slot_done (seen c.self.inside.words.items c.self.inside.spans.entries (settled c.self.inside.freed.items c.self.inside.holes.items) c.self.inside.top) c.args.at c.args.slot c.args.value c.in-Some.span c.write_slot.result c.write_slot.new.words.items c.self.invariant.flat (sym c.span_at.ensures ∙ c.in-Some.is) c.write_slot.ensures.answer c.write_slot.ensures.words).stored

pub returns-in-Some-clause-flat : goal.returns-in-Some-clause-flat
returns-in-Some-clause-flat c = rw (← c.self.view_is) (slot_done (seen c.self.inside.words.items c.self.inside.spans.entries (settled c.self.inside.freed.items c.self.inside.holes.items) c.self.inside.top) c.args.at c.args.slot c.args.value c.in-Some.span c.write_slot.result c.write_slot.new.words.items c.self.invariant.flat (sym c.span_at.ensures ∙ c.in-Some.is) c.write_slot.ensures.answer c.write_slot.ensures.words).is

pub returns-in-None-clause-store : goal.returns-in-None-clause-store
returns-in-None-clause-store c = rw (← c.self.view_is) (done_none (with_slot c.args.slot c.args.value) (seen c.self.inside.words.items c.self.inside.spans.entries (settled c.self.inside.freed.items c.self.inside.holes.items) c.self.inside.top) (seen c.self.inside.words.items c.self.inside.spans.entries (settled c.self.inside.freed.items c.self.inside.holes.items) c.self.inside.top) c.args.at c.self.invariant.flat (sym c.span_at.ensures ∙ c.in-None.is)).stored

pub returns-in-None-clause-flat : goal.returns-in-None-clause-flat
returns-in-None-clause-flat c = rw (← c.self.view_is) (done_none (with_slot c.args.slot c.args.value) (seen c.self.inside.words.items c.self.inside.spans.entries (settled c.self.inside.freed.items c.self.inside.holes.items) c.self.inside.top) (over (start_at c.args.at (seen c.self.inside.words.items c.self.inside.spans.entries (settled c.self.inside.freed.items c.self.inside.holes.items) c.self.inside.top) + 2 * c.args.slot) (scalar_words c.args.value) (seen c.self.inside.words.items c.self.inside.spans.entries (settled c.self.inside.freed.items c.self.inside.holes.items) c.self.inside.top)) c.args.at c.self.invariant.flat (sym c.span_at.ensures ∙ c.in-None.is)).is

pub returns-in-Some-clause-answer : goal.returns-in-Some-clause-answer
returns-in-Some-clause-answer c = rw (← c.self.view_is) (c.write_slot.ensures.answer ∙ ap is_some (sym (asked_some (with_slot c.args.slot c.args.value) (seen c.self.inside.words.items c.self.inside.spans.entries (settled c.self.inside.freed.items c.self.inside.holes.items) c.self.inside.top) c.args.at c.in-Some.span (sym c.span_at.ensures ∙ c.in-Some.is))))

pub returns-in-None-clause-answer : goal.returns-in-None-clause-answer
returns-in-None-clause-answer c = rw (← c.self.view_is) (ap is_some (sym (asked_none (with_slot c.args.slot c.args.value) (seen c.self.inside.words.items c.self.inside.spans.entries (settled c.self.inside.freed.items c.self.inside.holes.items) c.self.inside.top) c.args.at (sym c.span_at.ensures ∙ c.in-None.is))))
