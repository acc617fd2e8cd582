use Rattle.std.proofs.Common.{length, refl, sym, ap, subst, ◌∙◌}
use Rattle.std.specs.Prelude.{IsSome, Some}
use Rattle.std.specs.Option.{option_map}
use Rattle.cg_heap.specs.Stored.{asked_of}
use Rattle.cg_flat.specs.Flat.{elements_of, span_words, stored_of, words_left}
use Rattle.cg_flat.specs.Seen.{seen}
use Rattle.cg_flat.specs.Settled.{settled}
use Rattle.cg_flat.proofs.Lent.{asked_elements, left_elements, of_start, of_within, some_span}
use Rattle.cg_flat.proofs.store.FlatStore.elements_mut.Goals as goal

pub unwrap-span-requires : goal.unwrap-span-requires
unwrap-span-requires c =
    subst IsSome (sym c.elements_span.ensures) (some_span (seen c.self.inside.words.items c.self.inside.spans.entries (settled c.self.inside.freed.items c.self.inside.holes.items) c.self.inside.top) c.args.at (subst (λ f. IsSome (asked_of elements_of c.args.at (stored_of f))) (sym c.self.view_is) c.requires))

pub part_mut-requires : goal.part_mut-requires
part_mut-requires c = rw (← c.self.view_is) (of_within (seen c.self.inside.words.items c.self.inside.spans.entries (settled c.self.inside.freed.items c.self.inside.holes.items) c.self.inside.top) c.args.at c.unwrap-span.result c.self.invariant.flat (sym c.elements_span.ensures ∙ c.unwrap-span.ensures))

pub returns : goal.returns
returns c =
    let lent = (c.part_mut.ensures.value ∙ ap (λ f. span_words f.words c.unwrap-span.result) (sym c.self.view_is)) in
    rw (← c.self.view_is) (
      (refl, λ w. ap (λ n. words_left n w (seen c.self.inside.words.items c.self.inside.spans.entries (settled c.self.inside.freed.items c.self.inside.holes.items) c.self.inside.top)) (sym (of_start (seen c.self.inside.words.items c.self.inside.spans.entries (settled c.self.inside.freed.items c.self.inside.holes.items) c.self.inside.top) c.args.at c.unwrap-span.result (sym c.elements_span.ensures ∙ c.unwrap-span.ensures)))),
      record {
        lends = tt;
        value = ap (λ l. Some l) lent ∙ sym (asked_elements (seen c.self.inside.words.items c.self.inside.spans.entries (settled c.self.inside.freed.items c.self.inside.holes.items) c.self.inside.top) c.args.at ∙ ap (option_map (span_words c.self.inside.words.items)) (sym c.elements_span.ensures ∙ c.unwrap-span.ensures));
        left = λ ws long. (left_elements (seen c.self.inside.words.items c.self.inside.spans.entries (settled c.self.inside.freed.items c.self.inside.holes.items) c.self.inside.top) c.args.at c.unwrap-span.result ws c.self.invariant.flat (sym c.elements_span.ensures ∙ c.unwrap-span.ensures) (long ∙ ap length lent)).0;
        store = λ ws long. (left_elements (seen c.self.inside.words.items c.self.inside.spans.entries (settled c.self.inside.freed.items c.self.inside.holes.items) c.self.inside.top) c.args.at c.unwrap-span.result ws c.self.invariant.flat (sym c.elements_span.ensures ∙ c.unwrap-span.ensures) (long ∙ ap length lent)).1;
      },
    )
