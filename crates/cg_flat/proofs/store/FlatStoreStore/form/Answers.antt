use Rattle.std.proofs.Common.{sym, ap, ◌∙◌}
use Rattle.std.specs.Option.{option_map}
use Rattle.std.specs.declared.option.Option.TheVariants.{Some}
use Rattle.cg_heap.specs.Stored.{form_of}
use Rattle.cg_flat.specs.Flat.{span_words}
use Rattle.cg_flat.specs.Seen.{seen}
use Rattle.cg_flat.specs.Settled.{settled}
use Rattle.cg_flat.proofs.Cells.{form_back}
use Rattle.cg_flat.proofs.Stores.{held_none, held_some}
use Rattle.cg_flat.proofs.store.FlatStoreStore.form.Goals as goal

pub returns-in-Some : goal.returns-in-Some
returns-in-Some c =
    rw (← c.self.view_is)
    (sym (ap (option_map form_of) (held_some (seen c.self.inside.words.items c.self.inside.spans.entries (settled c.self.inside.freed.items c.self.inside.holes.items) c.self.inside.top) c.args.at c.in-Some.span (sym c.span_at.ensures ∙ c.in-Some.is))
    ∙ ap (λ k. Some k) (form_back c.in-Some.span.form (span_words c.self.inside.words.items c.in-Some.span))))

pub returns-in-None : goal.returns-in-None
returns-in-None c = rw (← c.self.view_is) (sym (ap (option_map form_of) (held_none (seen c.self.inside.words.items c.self.inside.spans.entries (settled c.self.inside.freed.items c.self.inside.holes.items) c.self.inside.top) c.args.at (sym c.span_at.ensures ∙ c.in-None.is))))
