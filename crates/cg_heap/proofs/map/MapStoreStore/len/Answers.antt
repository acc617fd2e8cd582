use Rattle.std.proofs.Common.{sym, ap, ◌∙◌, arith}
use Rattle.std.specs.Option.{option_map, option_copied}
use Rattle.cg_heap.specs.Stored.{cell_length}
use Rattle.cg_heap.proofs.Maps.{held_at}
use Rattle.cg_heap.proofs.map.MapStoreStore.len.Goals as goal

pub overflow_cast-result : goal.overflow_cast-result
overflow_cast-result c =
    let found = sym c.get.ensures.value ∙ ap option_copied c.in-Some.is in
    let short = c.self.invariant.short c.args.at c.in-Some.cell.now (held_at c.self.inside.cells.entries c.args.at ∙ found) in
    let is = c.len.ensures in omega arith

pub returns-in-Some-clause-len : goal.returns-in-Some-clause-len
returns-in-Some-clause-len c =
    let found = sym c.get.ensures.value ∙ ap option_copied c.in-Some.is in
    rw (c.len.ensures, ← c.self.view_is) (ap (option_map cell_length) (sym (held_at c.self.inside.cells.entries c.args.at ∙ found)))

pub returns-in-None-clause-len : goal.returns-in-None-clause-len
returns-in-None-clause-len c =
    let missed = sym c.get.ensures.value ∙ ap option_copied c.in-None.is in
    rw (← c.self.view_is) (ap (option_map cell_length) (sym (held_at c.self.inside.cells.entries c.args.at ∙ missed)))
