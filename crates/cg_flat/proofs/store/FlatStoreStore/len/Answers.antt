use Rattle.std.proofs.Common.{sym, ap, ◌∙◌, arith}
use Rattle.std.specs.Option.{option_map}
use Rattle.std.specs.declared.option.Option.TheVariants.{Some}
use Rattle.cg_heap.specs.Stored.{cell_length}
use Rattle.cg_flat.specs.Flat.{cell_in, cell_of, span_words}
use Rattle.cg_flat.specs.Seen.{seen}
use Rattle.cg_flat.specs.Settled.{settled}
use Rattle.cg_flat.proofs.Counts.{within_words}
use Rattle.cg_flat.proofs.Stores.{held_none, held_some}
use Rattle.cg_flat.proofs.store.FlatStoreStore.len.Goals as goal

pub part-requires : goal.part-requires
part-requires c = rw c.as_slice.ensures.value (within_words (seen c.self.inside.words.items c.self.inside.spans.entries (settled c.self.inside.freed.items c.self.inside.holes.items) c.self.inside.top) c.args.at c.in-Some.span c.self.invariant.flat (sym c.span_at.ensures ∙ c.in-Some.is))

pub overflow_cast-result : goal.overflow_cast-result
overflow_cast-result c =
    let short = c.self.invariant.flat.sound.short c.args.at (cell_of c.self.inside.words.items c.in-Some.span) (held_some (seen c.self.inside.words.items c.self.inside.spans.entries (settled c.self.inside.freed.items c.self.inside.holes.items) c.self.inside.top) c.args.at c.in-Some.span (sym c.span_at.ensures ∙ c.in-Some.is)) in
    let same = c.length_in.ensures ∙ ap (λ ws. cell_length (cell_in c.in-Some.span.form ws)) (c.part.ensures ∙ ap (λ l. span_words l c.in-Some.span) c.as_slice.ensures.value) in
    omega arith

pub returns-in-Some-clause-len : goal.returns-in-Some-clause-len
returns-in-Some-clause-len c =
    rw (← c.self.view_is)
    (ap (λ n. Some n) (c.length_in.ensures ∙ ap (λ ws. cell_length (cell_in c.in-Some.span.form ws)) (c.part.ensures ∙ ap (λ l. span_words l c.in-Some.span) c.as_slice.ensures.value))
    ∙ sym (ap (option_map cell_length) (held_some (seen c.self.inside.words.items c.self.inside.spans.entries (settled c.self.inside.freed.items c.self.inside.holes.items) c.self.inside.top) c.args.at c.in-Some.span (sym c.span_at.ensures ∙ c.in-Some.is))))

pub returns-in-None-clause-len : goal.returns-in-None-clause-len
returns-in-None-clause-len c = rw (← c.self.view_is) (sym (ap (option_map cell_length) (held_none (seen c.self.inside.words.items c.self.inside.spans.entries (settled c.self.inside.freed.items c.self.inside.holes.items) c.self.inside.top) c.args.at (sym c.span_at.ensures ∙ c.in-None.is))))
