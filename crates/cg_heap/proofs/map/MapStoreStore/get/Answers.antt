use Rattle.std.proofs.Common.{sym, ap, ◌∙◌}
use Rattle.std.specs.Option.{option_copied}
use Rattle.cg_heap.specs.Stored.{slot_of}
use Rattle.cg_heap.proofs.Maps.{asked_is, asked_none}
use Rattle.cg_heap.proofs.map.MapStoreStore.get.Goals as goal

pub returns-in_err-get : goal.returns-in_err-get
returns-in_err-get c =
    let missed = sym c.get.ensures.value ∙ ap option_copied c.in_err-get.was in
    rw (c.from_residual.ensures, ← c.self.view_is) (asked_none (slot_of c.args.slot) c.args.at c.self.inside.cells.entries c.self.inside.top missed)

pub returns : goal.returns
returns c =
    let found = sym c.get.ensures.value ∙ ap option_copied c.in_ok-get.was in
    rw (c.get-2.ensures, ← c.self.view_is) (asked_is (slot_of c.args.slot) c.args.at c.self.inside.cells.entries c.self.inside.top c.in_ok-get.field-0.now found)
