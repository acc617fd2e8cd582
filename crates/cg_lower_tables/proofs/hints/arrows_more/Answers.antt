use Rattle.std.proofs.Common.{◌≡◌, map, sym, subst, ◌∙◌}
use Rattle.std.specs.Prelude.{OnOk, nat_eq}
use Rattle.std.proofs.lemmas.List.{length-map}
use Rattle.cg_base.specs.Types.{type_of}
use Rattle.cg_lower_tables.specs.Hints.{IsPlaceOf}
use Rattle.cg_lower_tables.proofs.ArrowSteps.{held_by, new_by}
use Rattle.cg_lower_tables.proofs.HintSteps.{keeps_more}
use Rattle.cg_lower_tables.proofs.hints.arrows_more.Goals as goal

pub returns-then-hinted_number-at-clause-ok : goal.returns-then-hinted_number-at-clause-ok
returns-then-hinted_number-at-clause-ok c =
    held_by c.args.arrows.now c.as_slice.result.now (type_of c.args.ty.now) c.hinted_number.result c.len-at.result c.hinted_number.ensures c.as_slice.ensures c.len-at.ensures
    c.if-hinted_number-at.true

pub returns-clause-ok : goal.returns-clause-ok
returns-clause-ok c =
    subst (λ ts. OnOk c.put_type.result (map type_of c.put_type.new.types ≡ ts))
    (new_by c.args.arrows.now c.as_slice.result.now (type_of c.args.ty.now) c.hinted_number.result c.len-at.result c.hinted_number.ensures c.as_slice.ensures c.len-at.ensures
    c.if-hinted_number-at.false)
    c.put_type.ensures.ok

pub returns-clause-hints : goal.returns-clause-hints
returns-clause-hints c =
    keeps_more (λ ts. IsPlaceOf ts) nat_eq c.args.key (type_of c.args.ty.now) (map type_of c.args.arrows.now) c.args.numbers.now.entries c.note_number.new.numbers.entries c.len-at.result
    (c.len-at.ensures ∙ sym (length-map c.args.arrows.now type_of)) c.note_number.ensures.kept c.note_number.ensures.low c.put_type.result (map type_of c.put_type.new.types) c.put_type.ensures.ok
    c.put_type.ensures.err c.in_ok-note_number.ensures.held
