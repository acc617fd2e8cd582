use Rattle.std.proofs.Common.{◌+◌, [], ◌∷◌, cond, sym, ap, ◌∙◌}
use Rattle.std.specs.Option.{is_some}
use Rattle.cg_heap.specs.Stored.{with_element}
use Rattle.cg_flat.specs.Flat.{over, span_words, start_at}
use Rattle.cg_flat.specs.Seen.{seen}
use Rattle.cg_flat.specs.Settled.{settled}
use Rattle.cg_flat.proofs.Lent.{element_left, element_told, none_written, of_within}
use Rattle.cg_flat.proofs.Stores.{changed_not}
use Rattle.cg_flat.proofs.store.FlatStoreStore.set_element.Goals as goal

pub part_mut-requires : goal.part_mut-requires
part_mut-requires c = rw (← c.self.view_is) (of_within (seen c.self.inside.words.items c.self.inside.spans.entries (settled c.self.inside.freed.items c.self.inside.holes.items) c.self.inside.top) c.args.at c.in-Some.span c.self.invariant.flat (sym c.elements_span.ensures ∙ c.in-Some.is))

pub returns-in-Some-clause-answer : goal.returns-in-Some-clause-answer
returns-in-Some-clause-answer c = rw (← c.self.view_is) (element_told (seen c.self.inside.words.items c.self.inside.spans.entries (settled c.self.inside.freed.items c.self.inside.holes.items) c.self.inside.top) c.args.at c.args.index c.args.value c.in-Some.span c.write_element.result c.part_mut.result.now (sym c.elements_span.ensures ∙ c.in-Some.is) (c.part_mut.ensures.value ∙ ap (λ f. span_words f.words c.in-Some.span) (sym c.self.view_is)) c.write_element.ensures.answer)

pub returns-in-Some-clause-store : goal.returns-in-Some-clause-store
returns-in-Some-clause-store c = rw (← c.self.view_is) (element_left (seen c.self.inside.words.items c.self.inside.spans.entries (settled c.self.inside.freed.items c.self.inside.holes.items) c.self.inside.top) c.args.at c.args.index c.args.value c.in-Some.span c.write_element.result c.part_mut.result.now c.write_element.new.elements c.self.invariant.flat (sym c.elements_span.ensures ∙ c.in-Some.is) (c.part_mut.ensures.value ∙ ap (λ f. span_words f.words c.in-Some.span) (sym c.self.view_is)) c.write_element.ensures.answer c.write_element.ensures.elements).stored

pub returns-in-Some-clause-flat : goal.returns-in-Some-clause-flat
returns-in-Some-clause-flat c = rw (← c.self.view_is) (element_left (seen c.self.inside.words.items c.self.inside.spans.entries (settled c.self.inside.freed.items c.self.inside.holes.items) c.self.inside.top) c.args.at c.args.index c.args.value c.in-Some.span c.write_element.result c.part_mut.result.now c.write_element.new.elements c.self.invariant.flat (sym c.elements_span.ensures ∙ c.in-Some.is) (c.part_mut.ensures.value ∙ ap (λ f. span_words f.words c.in-Some.span) (sym c.self.view_is)) c.write_element.ensures.answer c.write_element.ensures.elements).is

pub returns-in-None-clause-answer : goal.returns-in-None-clause-answer
returns-in-None-clause-answer c = rw (← c.self.view_is) (ap is_some (sym (none_written c.args.index c.args.value (seen c.self.inside.words.items c.self.inside.spans.entries (settled c.self.inside.freed.items c.self.inside.holes.items) c.self.inside.top) c.args.at (sym c.elements_span.ensures ∙ c.in-None.is))))

pub returns-in-None-clause-store : goal.returns-in-None-clause-store
returns-in-None-clause-store c = rw (← c.self.view_is) (changed_not (with_element c.args.index c.args.value) (seen c.self.inside.words.items c.self.inside.spans.entries (settled c.self.inside.freed.items c.self.inside.holes.items) c.self.inside.top) c.args.at (none_written c.args.index c.args.value (seen c.self.inside.words.items c.self.inside.spans.entries (settled c.self.inside.freed.items c.self.inside.holes.items) c.self.inside.top) c.args.at (sym c.elements_span.ensures ∙ c.in-None.is)))

pub returns-in-None-clause-flat : goal.returns-in-None-clause-flat
returns-in-None-clause-flat c = rw (← c.self.view_is) (ap (λ o. cond (is_some o) (over (start_at c.args.at (seen c.self.inside.words.items c.self.inside.spans.entries (settled c.self.inside.freed.items c.self.inside.holes.items) c.self.inside.top) + c.args.index) (c.args.value ∷ []) (seen c.self.inside.words.items c.self.inside.spans.entries (settled c.self.inside.freed.items c.self.inside.holes.items) c.self.inside.top)) (seen c.self.inside.words.items c.self.inside.spans.entries (settled c.self.inside.freed.items c.self.inside.holes.items) c.self.inside.top)) (sym (none_written c.args.index c.args.value (seen c.self.inside.words.items c.self.inside.spans.entries (settled c.self.inside.freed.items c.self.inside.holes.items) c.self.inside.top) c.args.at (sym c.elements_span.ensures ∙ c.in-None.is))))
