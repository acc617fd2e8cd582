use Rattle.std.proofs.Common.{arith, length, refl, sym, ap, subst, ◌∙◌, map}
use Rattle.std.proofs.lemmas.Result.{IfOk-weaker}
use Rattle.cg_base.specs.Types.{type_of}
use Rattle.cg_core.specs.Kernels.{the_core}
use Rattle.cg_core.specs.Terms.{op, to_trees}
use Rattle.cg_lower_def.specs.Lowered.{word_of}
use Rattle.cg_cgen_def.specs.Places as places
use Rattle.cg_update.specs.Turns.{place_in}
use Rattle.cg_cgen_lines.specs.declared.paths.Base.TheVariants as base
use Rattle.cg_lower_nodes.specs.declared.place.Place.TheVariants as place
use Rattle.cg_lower_terms.specs.Forms.{LowersNode}
use Rattle.cg_cgen_lines.specs.Views.{step_of}
use Rattle.cg_lower_nodes.specs.Views.{place_of}
use Rattle.cg_core.proofs.Forms.{one_term, two_terms}
use Rattle.cg_lower_terms.proofs.FormSteps.{after_app, after_case, after_if, after_many, after_one, after_put, after_take, after_two, arm_made, arm_within, arms_both, fields_more, fields_none}
use Rattle.cg_core.proofs.FormGroups.{is_rest, no_data}
use Rattle.cg_lower_terms.proofs.TermSteps.{after_let, after_within}
use Rattle.cg_typing.proofs.CoreTypes.{type_of_core}
use Rattle.cg_lower_terms.proofs.terms.+lower.Goals as goal
use Rattle.cg_base.proofs.Truths.{second}

pub lower_term-lower_data-requires : goal.lower_term-lower_data-requires
lower_term-lower_data-requires t c = let d = c.in_default in (omega arith, is_rest c.args.term.now.form d.not-Op d.not-App d.not-Let d.not-LetBang d.not-If d.not-Cast d.not-Annot)

pub lower_data-leaf-requires : goal.lower_data-leaf-requires
lower_data-leaf-requires t c =
    let d = c.in_default in second _ _ c.requires (no_data c.args.term.now.form d.not-Con d.not-Case d.not-Esac d.not-Struct d.not-Member d.not-Take d.not-Put)

pub lower_let-returns : goal.lower_let-returns
lower_let-returns t c =
    IfOk-weaker c.lower_within.result _ _
    (λ p s. after_let c.args.state.now c.lower_term.new.state c.lower_within.new.state c.in_ok-place.place p (the_core c.args.value.now) (the_core c.args.body.now) c.in_ok-place.ensures s)
    c.lower_within.ensures

pub lower_within-returns : goal.lower_within-returns
lower_within-returns t c =
    after_within c.args.state.now c.bind.new.self c.lower_term.new.state c.unbind.new.self c.args.bound c.in_ok-place.place (the_core c.args.body.now) c.len-depth.result
    c.in_ok-bind.ensures c.in_ok-place.ensures c.unbind.ensures (omega (arith, c.len-depth.ensures, c.len-depth.type_inv))

pub lower_one-returns : goal.lower_one-returns
lower_one-returns t c =
    IfOk-weaker c.operated_once.result _ _
    (λ q h. after_one c.args.state.now c.lower_term.new.state c.operated_once.new.state c.in_ok-value.value q c.args.op c.word_of-word.result (type_of c.args.ty.now) (the_core c.args.operand.now)
    c.in_ok-value.ensures (c.word_of-word.ensures ∙ ap word_of (sym (type_of_core c.args.operand.now))) h)
    c.operated_once.ensures

pub lower_two-returns : goal.lower_two-returns
lower_two-returns t c =
    IfOk-weaker c.operated_both.result _ _
    (λ q h. after_two c.args.state.now c.lower_term.new.state c.lower_term-2.new.state c.operated_both.new.state c.in_ok-first.first c.in_ok-second.second q c.args.op c.word_of-word.result
    (type_of c.args.ty.now) (the_core c.args.left.now) (the_core c.args.right.now)
    c.in_ok-first.ensures c.in_ok-second.ensures (c.word_of-word.ensures ∙ ap word_of (sym (type_of_core c.args.left.now))) h)
    c.operated_both.ensures

pub lower_op-returns-in-len1 : goal.lower_op-returns-in-len1
lower_op-returns-in-len1 t c =
    let ts = ap (λ z. to_trees (map the_core z)) (sym c.as_slice.ensures) ∙ one_term c.as_slice.result.now c.operand-item.result c.in-len1.len_at_least c.in-len1.len_below c.operand-item.is in
    IfOk-weaker c.lower_one.result _ _ (λ p h. subst (λ z. LowersNode c.args.state.now c.lower_one.new.state (type_of c.args.ty.now) (op c.args.op z) p) (sym ts) h) c.lower_one.ensures

pub lower_op-returns-in-len2 : goal.lower_op-returns-in-len2
lower_op-returns-in-len2 t c =
    let ts =
    ap (λ z. to_trees (map the_core z)) (sym c.as_slice.ensures)
    ∙ two_terms c.as_slice.result.now c.left-item.result c.right-item.result c.in-len2.len_at_least c.in-len2.len_below c.left-item.is c.right-item.is in
    IfOk-weaker c.lower_two.result _ _ (λ p h. subst (λ z. LowersNode c.args.state.now c.lower_two.new.state (type_of c.args.ty.now) (op c.args.op z) p) (sym ts) h) c.lower_two.ensures

pub lower_op-returns-in-empty : goal.lower_op-returns-in-empty
lower_op-returns-in-empty t c =
    let e = ap length c.as_slice.ensures in
    after_many c.args.state.now (type_of c.args.ty.now) c.args.op c.args.operands.now (place.Number 0)
    (λ one. omega (arith, one, e, c.in-empty.len_below)) (λ two. omega (arith, two, e, c.in-empty.len_below)) refl

pub lower_op-returns-in-len3-up : goal.lower_op-returns-in-len3-up
lower_op-returns-in-len3-up t c =
    let e = ap length c.as_slice.ensures in
    after_many c.args.state.now (type_of c.args.ty.now) c.args.op c.args.operands.now (place.Number 0)
    (λ one. omega (arith, one, e, c.in-len3-up.len_at_least)) (λ two. omega (arith, two, e, c.in-len3-up.len_at_least)) refl

pub lower_app-returns : goal.lower_app-returns
lower_app-returns t c =
    IfOk-weaker c.called.result _ _
    (λ q h. after_app c.args.state.now c.lower_term.new.state c.lower_term-2.new.state c.callee.new.state c.called.new.state c.in_ok-value.value c.in_ok-argument.argument q c.in_ok-name.name c.in_ok-values.values
    (type_of c.args.ty.now) (the_core c.args.function.now) (the_core c.args.argument.now)
    c.in_ok-value.ensures c.in_ok-argument.ensures c.in_ok-name.ensures.name c.in_ok-name.ensures.kept c.in_ok-values.ensures h)
    c.called.ensures

pub lower_arm-returns : goal.lower_arm-returns
lower_arm-returns t c =
    IfOk-weaker c.end.result _ _
    (λ ys h. arm_made c.args.state.now c.begin-outer.new.self c.lower_term.new.state c.end.new.self c.begin-outer.result ys c.args.to c.in_ok-value.value (the_core c.args.term.now)
    c.begin-outer.ensures c.in_ok-value.ensures h)
    c.end.ensures

pub lower_arm_within-returns : goal.lower_arm_within-returns
lower_arm_within-returns t c =
    arm_within c.args.state.now c.bind.new.self c.lower_arm.new.state c.unbind.new.self c.in_ok-stmts.stmts c.args.to c.args.bound (the_core c.args.term.now) c.len-depth.result
    c.in_ok-bind.ensures c.in_ok-stmts.ensures c.unbind.ensures (omega (arith, c.len-depth.ensures, c.len-depth.type_inv))

pub lower_arms-returns : goal.lower_arms-returns
lower_arms-returns t c =
    arms_both c.args.state.now c.lower_arm_within.new.state c.lower_arm_within-2.new.state c.in_ok-yes.yes c.in_ok-no.no c.args.to c.args.at c.args.value c.in_ok-payload.payload (place_of c.in_ok-copy.field-0)
    (the_core c.args.first.now) (the_core c.args.rest.now) c.in_ok-payload.ensures (ap place_of c.in_ok-copy.ensures) c.in_ok-yes.ensures c.in_ok-no.ensures

pub lower_if-returns : goal.lower_if-returns
lower_if-returns t c =
    after_if c.args.state.now c.lower_term.new.state c.fresh.new.self c.lower_arm.new.state c.lower_arm-2.new.state c.choose.new.state c.in_ok-flag.flag
    (place.Held (base.Local c.in_ok-to.to) c.new.result) (type_of c.args.ty.now) c.in_ok-to.to c.in_ok-yes.yes c.in_ok-no.no (the_core c.args.test.now) (the_core c.args.yes.now) (the_core c.args.no.now)
    c.in_ok-flag.ensures c.in_ok-to.ensures c.in_ok-yes.ensures c.in_ok-no.ensures c.in_ok-choose.ensures (ap (λ z. places.held (places.local c.in_ok-to.to) (map step_of z)) c.new.ensures)

pub lower_case-returns : goal.lower_case-returns
lower_case-returns t c =
    after_case c.args.state.now c.lower_term.new.state c.tagged.new.state c.fresh.new.self c.lower_arms.new.state c.choose.new.state c.in_ok-value.value c.in_ok-flag.flag
    (place.Held (base.Local c.in_ok-to.to) c.new.result) (type_of c.args.ty.now) c.in_ok-to.to c.alternative_place-at.result c.in_ok-yes.yes c.in_ok-yes.no (the_core c.args.subject.now) c.args.at.now
    (the_core c.args.first.now) (the_core c.args.rest.now)
    c.in_ok-value.ensures (c.alternative_place-at.ensures ∙ ap (place_in c.args.at.now.name) (sym (type_of_core c.args.subject.now))) c.in_ok-flag.ensures c.in_ok-to.ensures c.in_ok-yes.ensures
    c.in_ok-choose.ensures (ap (λ z. places.held (places.local c.in_ok-to.to) (map step_of z)) c.new.ensures)

pub lower_fields-loop-field-init : goal.lower_fields-loop-field-init
lower_fields-loop-field-init t c = fields_none c.args.state.now c.new-values.result c.new-values.ensures

pub lower_fields-loop-field-preserved : goal.lower_fields-loop-field-preserved
lower_fields-loop-field-preserved t c =
    fields_more c.args.state.now c.loop-field.state c.lower_term.new.state c.loop-field.values c.push.new.self c.in_ok-value.value c.as_slice-field-items.result.now c.loop-field.field-index
    c.field-item.result c.loop-field-test.true c.field-item.is c.loop-field.invariant c.in_ok-value.ensures c.in_ok-push.ensures.ok

pub lower_take-returns : goal.lower_take-returns
lower_take-returns t c =
    after_take c.args.state.now c.lower_term.new.state c.read_at.new.state c.bind.new.self c.lower_within.new.state c.unbind.new.self c.in_ok-value.value c.in_ok-left.left c.in_ok-left.part c.in_ok-place.place
    c.position-at.result c.len-depth.result (the_core c.args.whole.now) c.args.at.now (the_core c.args.body.now) (type_of c.args.whole.now.note.ty)
    c.in_ok-value.ensures (type_of_core c.args.whole.now) c.position-at.ensures c.in_ok-left.ensures c.in_ok-bind.ensures c.in_ok-place.ensures c.unbind.ensures
    (omega (arith, c.len-depth.ensures, c.len-depth.type_inv))

pub lower_put-returns : goal.lower_put-returns
lower_put-returns t c =
    IfOk-weaker c.put.result _ _
    (λ q h. after_put c.args.state.now c.lower_term.new.state c.lower_term-2.new.state c.put.new.state c.in_ok-place.place c.in_ok-value.value q c.len-from.result c.position-at.result
    (the_core c.args.whole.now) c.args.at.now (the_core c.args.value.now) (type_of c.args.whole.now.note.ty)
    c.in_ok-place.ensures c.in_ok-value.ensures c.len-from.ensures (type_of_core c.args.whole.now) c.position-at.ensures h)
    c.put.ensures
