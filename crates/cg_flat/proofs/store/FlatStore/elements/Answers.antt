use Rattle.std.proofs.Common.{sym, ap, ◌∙◌}
use Rattle.std.specs.Option.{option_map}
use Rattle.std.specs.declared.option.Option.TheVariants.{Some}
use Rattle.cg_flat.specs.Flat.{span_words}
use Rattle.cg_flat.specs.Seen.{seen}
use Rattle.cg_flat.specs.Settled.{settled}
use Rattle.cg_flat.proofs.Lent.{asked_elements, of_within}
use Rattle.cg_flat.proofs.store.FlatStore.elements.Goals as goal

pub part-requires : goal.part-requires
part-requires c = rw c.as_slice.ensures.value (of_within (seen c.self.inside.words.items c.self.inside.spans.entries (settled c.self.inside.freed.items c.self.inside.holes.items) c.self.inside.top) c.args.at c.in-Some.span c.self.invariant.flat (sym c.elements_span.ensures ∙ c.in-Some.is))

pub returns-in-Some : goal.returns-in-Some
returns-in-Some c =
    rw (← c.self.view_is)
    (ap (λ ws. Some ws) (c.part.ensures ∙ ap (λ l. span_words l c.in-Some.span) c.as_slice.ensures.value)
    ∙ sym (asked_elements (seen c.self.inside.words.items c.self.inside.spans.entries (settled c.self.inside.freed.items c.self.inside.holes.items) c.self.inside.top) c.args.at ∙ ap (option_map (span_words c.self.inside.words.items)) (sym c.elements_span.ensures ∙ c.in-Some.is)))

pub returns-in-None : goal.returns-in-None
returns-in-None c = rw (← c.self.view_is) (sym (asked_elements (seen c.self.inside.words.items c.self.inside.spans.entries (settled c.self.inside.freed.items c.self.inside.holes.items) c.self.inside.top) c.args.at ∙ ap (option_map (span_words c.self.inside.words.items)) (sym c.elements_span.ensures ∙ c.in-None.is)))
