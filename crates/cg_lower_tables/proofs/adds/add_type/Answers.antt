use Rattle.std.proofs.Common.{map, nat_eq}
use Rattle.cg_base.specs.Types.{type_of}
use Rattle.cg_lower_tables.specs.Hints.{IsPlaceOf, hint_of}
use Rattle.cg_lower_tables.proofs.HintSteps.{hinted, rekeyed}
use Rattle.cg_lower_tables.proofs.KeySteps.{one_place, place_stays}
use Rattle.cg_lower_tables.proofs.adds.add_type.Goals as goal

pub arrows_more-requires : goal.arrows_more-requires
arrows_more-requires c =
    hinted (IsPlaceOf c.place_in.new.table) (hint_of nat_eq c.args.numbers.now.entries) (map type_of c.args.arrows.now)
    (rekeyed (IsPlaceOf c.args.table.now) (hint_of nat_eq c.args.numbers.now.entries) (map type_of c.args.arrows.now) c.requires (IsPlaceOf c.place_in.new.table)
    (place_stays c.args.table.now c.place_in.new.table c.in_ok-key.ensures.kept))
    (one_place c.place_in.new.table c.stands_once.ensures) c.in_ok-key.key (type_of c.args.ty.now) c.in_ok-key.ensures.place

pub returns-in_err-key-clause-hints : goal.returns-in_err-key-clause-hints
returns-in_err-key-clause-hints c =
    rekeyed (IsPlaceOf c.args.table.now) (hint_of nat_eq c.args.numbers.now.entries) (map type_of c.args.arrows.now) c.requires (IsPlaceOf c.place_in.new.table)
    (place_stays c.args.table.now c.place_in.new.table c.place_in.ensures.kept)

pub returns-clause-hints : goal.returns-clause-hints
returns-clause-hints c =
    c.arrows_more.ensures.hints c.place_in.new.table c.in_ok-key.ensures.place
    (rekeyed (IsPlaceOf c.args.table.now) (hint_of nat_eq c.args.numbers.now.entries) (map type_of c.args.arrows.now) c.requires (IsPlaceOf c.place_in.new.table)
    (place_stays c.args.table.now c.place_in.new.table c.in_ok-key.ensures.kept))
