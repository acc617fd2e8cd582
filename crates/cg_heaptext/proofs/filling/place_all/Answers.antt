use Rattle.std.proofs.Common.{map, subst, sym}
use Rattle.cg_heaptext_contents.specs.Placings.{pair_of}
use Rattle.cg_heaptext.proofs.OneByOne.{IsUnderWay, begins, goes_on, is_absent, is_least, is_most, is_short, last_of, on_err, some_placed}
use Rattle.cg_heaptext.proofs.filling.place_all.Goals as goal

pub loop-placed-init : goal.loop-placed-init
loop-placed-init g c = begins (map pair_of c.args.cells) (g.S.Store.stored c.args.store.now) c.requires.empty c.requires.top

pub place-requires-clause-absent : goal.place-requires-clause-absent
place-requires-clause-absent g c =
    is_absent (map pair_of c.args.cells) (map pair_of c.pop.new.self) (pair_of c.in-Some.placed) (g.S.Store.stored c.loop-placed.store) c.requires.placeable
    (last_of (map pair_of c.args.cells) c.loop-placed.left c.pop.new.self c.pop.result c.in-Some.placed (g.S.Store.stored c.loop-placed.store) c.pop.ensures.items c.in-Some.is c.loop-placed.invariant)

pub place-requires-clause-least : goal.place-requires-clause-least
place-requires-clause-least g c =
    is_least (map pair_of c.args.cells) (map pair_of c.pop.new.self) (pair_of c.in-Some.placed) (g.S.Store.stored c.loop-placed.store) c.requires.placeable
    (last_of (map pair_of c.args.cells) c.loop-placed.left c.pop.new.self c.pop.result c.in-Some.placed (g.S.Store.stored c.loop-placed.store) c.pop.ensures.items c.in-Some.is c.loop-placed.invariant)

pub place-requires-clause-most : goal.place-requires-clause-most
place-requires-clause-most g c =
    is_most (map pair_of c.args.cells) (map pair_of c.pop.new.self) (pair_of c.in-Some.placed) (g.S.Store.stored c.loop-placed.store) c.requires.placeable
    (last_of (map pair_of c.args.cells) c.loop-placed.left c.pop.new.self c.pop.result c.in-Some.placed (g.S.Store.stored c.loop-placed.store) c.pop.ensures.items c.in-Some.is c.loop-placed.invariant)

pub place-requires-clause-short : goal.place-requires-clause-short
place-requires-clause-short g c =
    is_short (map pair_of c.args.cells) (map pair_of c.pop.new.self) (pair_of c.in-Some.placed) (g.S.Store.stored c.loop-placed.store) c.requires.placeable
    (last_of (map pair_of c.args.cells) c.loop-placed.left c.pop.new.self c.pop.result c.in-Some.placed (g.S.Store.stored c.loop-placed.store) c.pop.ensures.items c.in-Some.is c.loop-placed.invariant)

pub loop-placed-preserved : goal.loop-placed-preserved
loop-placed-preserved g c =
    subst (IsUnderWay (map pair_of c.args.cells) (map pair_of c.pop.new.self)) (sym c.in_ok-place.ensures.ok)
    (goes_on (map pair_of c.args.cells) (map pair_of c.pop.new.self) (pair_of c.in-Some.placed) (g.S.Store.stored c.loop-placed.store) c.requires.placeable
    (last_of (map pair_of c.args.cells) c.loop-placed.left c.pop.new.self c.pop.result c.in-Some.placed (g.S.Store.stored c.loop-placed.store) c.pop.ensures.items c.in-Some.is c.loop-placed.invariant))

pub returns-in_err-place-clause-err : goal.returns-in_err-place-clause-err
returns-in_err-place-clause-err g c =
    on_err c.from_residual.result _
    (some_placed (map pair_of c.args.cells) (map pair_of c.loop-placed.left) (g.S.Store.stored c.place.new.self) c.requires.placeable
    (subst (IsUnderWay (map pair_of c.args.cells) (map pair_of c.loop-placed.left)) (sym c.in_err-place.ensures.err) c.loop-placed.invariant))
