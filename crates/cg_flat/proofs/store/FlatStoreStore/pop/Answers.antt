use Rattle.std.proofs.Common.{sym, ap, ◌∙◌, ◌+◌, [], ◌∷◌, slice_index}
use Rattle.std.specs.Option.{is_some}
use Rattle.cg_heap.specs.Stored.{answer_of, without_answer}
use Rattle.cg_flat.specs.Flat.{over, span_words, start_at}
use Rattle.cg_flat.specs.Seen.{seen}
use Rattle.cg_flat.specs.Settled.{settled}
use Rattle.cg_flat.proofs.Calls.{answer_done, same_test}
use Rattle.cg_flat.proofs.Counts.{within_words}
use Rattle.cg_flat.proofs.Steps.{done_none}
use Rattle.cg_flat.proofs.Stores.{asked_none, asked_some}
use Rattle.cg_flat.proofs.store.FlatStoreStore.pop.Goals as goal

pub take_answer-requires : goal.take_answer-requires
take_answer-requires c = within_words (seen c.self.inside.words.items c.self.inside.spans.entries (settled c.self.inside.freed.items c.self.inside.holes.items) c.self.inside.top) c.args.at c.in-Some.span c.self.invariant.flat (sym c.span_at.ensures ∙ c.in-Some.is)

pub invariant_of-self : goal.invariant_of-self
invariant_of-self c = record {
  flat = (answer_done (seen c.self.inside.words.items c.self.inside.spans.entries (settled c.self.inside.freed.items c.self.inside.holes.items) c.self.inside.top) c.args.at c.in-Some.span (is_some c.take_answer.result) c.take_answer.new.words.items c.self.invariant.flat (sym c.span_at.ensures ∙ c.in-Some.is) (ap is_some c.take_answer.ensures.answer ∙ same_test c.in-Some.span.form (span_words c.self.inside.words.items c.in-Some.span)) c.take_answer.ensures.words).flat;
  free = c.self.invariant.free;
  room = c.self.invariant.room;
  short = c.self.invariant.short;
}

pub returns-in-Some-clause-store : goal.returns-in-Some-clause-store
returns-in-Some-clause-store c = rw (← c.self.view_is) (answer_done (seen c.self.inside.words.items c.self.inside.spans.entries (settled c.self.inside.freed.items c.self.inside.holes.items) c.self.inside.top) c.args.at c.in-Some.span (is_some c.take_answer.result) c.take_answer.new.words.items c.self.invariant.flat (sym c.span_at.ensures ∙ c.in-Some.is) (ap is_some c.take_answer.ensures.answer ∙ same_test c.in-Some.span.form (span_words c.self.inside.words.items c.in-Some.span)) c.take_answer.ensures.words).stored

pub returns-in-Some-clause-flat : goal.returns-in-Some-clause-flat
returns-in-Some-clause-flat c = rw (← c.self.view_is) (answer_done (seen c.self.inside.words.items c.self.inside.spans.entries (settled c.self.inside.freed.items c.self.inside.holes.items) c.self.inside.top) c.args.at c.in-Some.span (is_some c.take_answer.result) c.take_answer.new.words.items c.self.invariant.flat (sym c.span_at.ensures ∙ c.in-Some.is) (ap is_some c.take_answer.ensures.answer ∙ same_test c.in-Some.span.form (span_words c.self.inside.words.items c.in-Some.span)) c.take_answer.ensures.words).is

pub returns-in-None-clause-store : goal.returns-in-None-clause-store
returns-in-None-clause-store c = rw (← c.self.view_is) (done_none without_answer (seen c.self.inside.words.items c.self.inside.spans.entries (settled c.self.inside.freed.items c.self.inside.holes.items) c.self.inside.top) (seen c.self.inside.words.items c.self.inside.spans.entries (settled c.self.inside.freed.items c.self.inside.holes.items) c.self.inside.top) c.args.at c.self.invariant.flat (sym c.span_at.ensures ∙ c.in-None.is)).stored

pub returns-in-None-clause-flat : goal.returns-in-None-clause-flat
returns-in-None-clause-flat c = rw (← c.self.view_is) (done_none without_answer (seen c.self.inside.words.items c.self.inside.spans.entries (settled c.self.inside.freed.items c.self.inside.holes.items) c.self.inside.top) (over (start_at c.args.at (seen c.self.inside.words.items c.self.inside.spans.entries (settled c.self.inside.freed.items c.self.inside.holes.items) c.self.inside.top)) ((slice_index c.self.inside.words.items (start_at c.args.at (seen c.self.inside.words.items c.self.inside.spans.entries (settled c.self.inside.freed.items c.self.inside.holes.items) c.self.inside.top)) + 1) ∷ []) (seen c.self.inside.words.items c.self.inside.spans.entries (settled c.self.inside.freed.items c.self.inside.holes.items) c.self.inside.top)) c.args.at c.self.invariant.flat (sym c.span_at.ensures ∙ c.in-None.is)).is

pub returns-in-Some-clause-answer : goal.returns-in-Some-clause-answer
returns-in-Some-clause-answer c = rw (← c.self.view_is) (c.take_answer.ensures.answer ∙ sym (asked_some (answer_of 0) (seen c.self.inside.words.items c.self.inside.spans.entries (settled c.self.inside.freed.items c.self.inside.holes.items) c.self.inside.top) c.args.at c.in-Some.span (sym c.span_at.ensures ∙ c.in-Some.is)))

pub returns-in-None-clause-answer : goal.returns-in-None-clause-answer
returns-in-None-clause-answer c = rw (← c.self.view_is) (sym (asked_none (answer_of 0) (seen c.self.inside.words.items c.self.inside.spans.entries (settled c.self.inside.freed.items c.self.inside.holes.items) c.self.inside.top) c.args.at (sym c.span_at.ensures ∙ c.in-None.is)))
