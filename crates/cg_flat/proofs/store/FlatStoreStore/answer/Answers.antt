use Rattle.std.proofs.Common.{sym, ap, ◌∙◌}
use Rattle.cg_heap.specs.Stored.{answer_of}
use Rattle.cg_flat.specs.Flat.{cell_in, span_words}
use Rattle.cg_flat.specs.Seen.{seen}
use Rattle.cg_flat.specs.Settled.{settled}
use Rattle.cg_flat.proofs.Counts.{within_words}
use Rattle.cg_flat.proofs.Stores.{asked_none, asked_some}
use Rattle.cg_flat.proofs.store.FlatStoreStore.answer.Goals as goal

pub part-requires : goal.part-requires
part-requires c = rw c.as_slice.ensures.value (within_words (seen c.self.inside.words.items c.self.inside.spans.entries (settled c.self.inside.freed.items c.self.inside.holes.items) c.self.inside.top) c.args.at c.in-Some.span c.self.invariant.flat (sym c.span_at.ensures ∙ c.in-Some.is))

pub returns-in-Some : goal.returns-in-Some
returns-in-Some c =
    rw (← c.self.view_is)
    (c.answer_in.ensures ∙ ap (λ ws. answer_of c.args.index (cell_in c.in-Some.span.form ws)) (c.part.ensures ∙ ap (λ l. span_words l c.in-Some.span) c.as_slice.ensures.value)
    ∙ sym (asked_some (answer_of c.args.index) (seen c.self.inside.words.items c.self.inside.spans.entries (settled c.self.inside.freed.items c.self.inside.holes.items) c.self.inside.top) c.args.at c.in-Some.span (sym c.span_at.ensures ∙ c.in-Some.is)))

pub returns-in-None : goal.returns-in-None
returns-in-None c = rw (← c.self.view_is) (sym (asked_none (answer_of c.args.index) (seen c.self.inside.words.items c.self.inside.spans.entries (settled c.self.inside.freed.items c.self.inside.holes.items) c.self.inside.top) c.args.at (sym c.span_at.ensures ∙ c.in-None.is)))
