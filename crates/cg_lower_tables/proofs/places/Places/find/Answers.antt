use Rattle.std.proofs.Common.{map, sym, subst}
use Rattle.cg_base.specs.Types.{type_of}
use Rattle.cg_inst.specs.Views.{instance_of}
use Rattle.cg_lower_tables.specs.Hints.{IsHint, hint_of, same_key}
use Rattle.cg_lower_tables.proofs.HintSteps.{place_hinted, sound_types}
use Rattle.cg_lower_tables.proofs.places.Places.find.Goals as goal

pub hinted_place-requires : goal.hinted_place-requires
hinted_place-requires c =
    let list = map instance_of c.self.inside.list in let arrows = map type_of c.self.inside.arrows in
    let places = c.self.inside.places.entries in let numbers = c.self.inside.numbers.entries in
    let x = instance_of c.args.instance.now in
    let sound = sound_types c.self.inside.table list places arrows numbers c.self.invariant c.key_of.new.table c.in_ok-key.ensures.kept in
    let hint = place_hinted c.key_of.new.table list places arrows numbers sound c.stands_once.ensures c.in_ok-key.key x c.in_ok-key.ensures.key in
    subst (IsHint (map instance_of c.as_slice.result.now) x) (sym c.place_hint-hint.ensures)
    (subst (λ l. IsHint (map instance_of l) x (hint_of same_key places c.in_ok-key.key)) (sym c.as_slice.ensures) hint)

pub invariant_of-self-2 : goal.invariant_of-self-2
invariant_of-self-2 c =
    sound_types c.self.inside.table (map instance_of c.self.inside.list) c.self.inside.places.entries (map type_of c.self.inside.arrows) c.self.inside.numbers.entries c.self.invariant
    c.key_of.new.table c.in_ok-key.ensures.kept
