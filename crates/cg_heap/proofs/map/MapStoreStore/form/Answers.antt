use Rattle.std.proofs.Common.{sym, ap, ◌∙◌}
use Rattle.std.specs.Option.{option_map, option_copied}
use Rattle.cg_heap.specs.Stored.{form_of}
use Rattle.cg_heap.proofs.Maps.{held_at}
use Rattle.cg_heap.proofs.map.MapStoreStore.form.Goals as goal

pub returns-in-Some : goal.returns-in-Some
returns-in-Some c =
    let found = sym c.get.ensures.value ∙ ap option_copied c.in-Some.is in
    rw (c.form.ensures, ← c.self.view_is) (ap (option_map form_of) (sym (held_at c.self.inside.cells.entries c.args.at ∙ found)))

pub returns-in-None : goal.returns-in-None
returns-in-None c =
    let missed = sym c.get.ensures.value ∙ ap option_copied c.in-None.is in
    rw (← c.self.view_is) (ap (option_map form_of) (sym (held_at c.self.inside.cells.entries c.args.at ∙ missed)))
