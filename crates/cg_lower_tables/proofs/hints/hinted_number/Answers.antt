use Rattle.std.proofs.Common.{ltb-true, Some, ap, sym, subst, map, ◌∙◌}
use Rattle.std.proofs.lemmas.List.{length-map}
use Rattle.cg_base.specs.Types.{type_of}
use Rattle.cg_lower_tables.specs.Hints.{IsHint}
use Rattle.cg_lower_tables.proofs.HintSteps.{number_first, number_none}
use Rattle.cg_lower_tables.proofs.hints.hinted_number.Goals as goal
use Rattle.cg_inst.proofs.MakeSteps.{at_place as got}

pub returns-in-Some-get : goal.returns-in-Some-get
returns-in-Some-get c =
    let t = type_of c.args.ty.now in
    let same = c.same.ensures.0 c.if-same.true in
    let there = got type_of c.args.arrows.now c.in-Some.at c.in-Some-get.other.now (ltb-true _ _ (sym c.in-Some-get.ensures.lookup.0)) c.in-Some-get.ensures.lookup.1 in
    let hint = subst (IsHint (map type_of c.args.arrows.now) t) c.in-Some.is c.requires in
    sym (number_first t (map type_of c.args.arrows.now) c.in-Some.at (there ∙ ap Some same) hint)

pub returns-in-None : goal.returns-in-None
returns-in-None c =
    let t = type_of c.args.ty.now in
    let hint = subst (IsHint (map type_of c.args.arrows.now) t) c.in-None.is c.requires in
    sym (number_none t (map type_of c.args.arrows.now) hint ∙ length-map c.args.arrows.now type_of)
