use Rattle.std.proofs.Common.{ltb-true, Some, ap, sym, subst, map, unwrap_or, ◌∙◌}
use Rattle.cg_inst.specs.Views.{instance_of}
use Rattle.cg_lower_tables.specs.Hints.{IsHint}
use Rattle.cg_lower_tables.proofs.HintSteps.{place_first, place_none}
use Rattle.cg_lower_tables.proofs.hints.hinted_place.Goals as goal
use Rattle.cg_inst.proofs.MakeSteps.{at_place as got}

pub returns-in-Some-get : goal.returns-in-Some-get
returns-in-Some-get c =
    let x = instance_of c.args.instance.now in
    let same = c.same.ensures.0 c.if-same.true in
    let there = got instance_of c.args.list.now c.in-Some.at c.in-Some-get.other.now (ltb-true _ _ (sym c.in-Some-get.ensures.lookup.0)) c.in-Some-get.ensures.lookup.1 in
    let hint = subst (IsHint (map instance_of c.args.list.now) x) c.in-Some.is c.requires in
    ap (λ o. unwrap_or o 0) (sym (place_first x (map instance_of c.args.list.now) c.in-Some.at (there ∙ ap Some same) hint))

pub returns-in-None : goal.returns-in-None
returns-in-None c =
    let x = instance_of c.args.instance.now in
    let hint = subst (IsHint (map instance_of c.args.list.now) x) c.in-None.is c.requires in
    ap (λ o. unwrap_or o 0) (sym (place_none x (map instance_of c.args.list.now) hint))
