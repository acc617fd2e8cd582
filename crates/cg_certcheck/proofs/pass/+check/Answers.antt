use Rattle.std.proofs.Common.{rules, ◌≡◌, ◌<◌, ◌+◌, true, false, Ok, Err, arith, ap, drop, length, map, refl, sym, ◌∙◌, subst}
use Rattle.std.specs.Option.{option_copied}
use Rattle.cg_base.specs.declared.limit.Limit.TheVariants.{Ty}
use Rattle.cg_base.specs.Types.{part_of, to_parts}
use Rattle.cg_cert.specs.declared.fault.CertFault.TheVariants.{Limit}
use Rattle.cg_certcheck.proofs.FormSteps.{by_left_else, by_right_then, check_is, goes_on}
use Rattle.cg_certcheck.proofs.PassSteps.{fields_none, other_operands}
use Rattle.cg_certcheck.proofs.FrontSteps.{next_fails, next_field, none_left, size_last, size_next}
use Rattle.cg_certcheck.specs.Standings.{ahead, all_before, named_with}
use Rattle.cg_check_pieces.proofs.TermSizes.{size_one, size_two, sizes}
use Rattle.cg_check_pieces.specs.Directions.{is_by_right}
use Rattle.cg_certcheck.specs.Forms.{form_by, last_field}
use Rattle.cg_check_pieces.specs.View.{bounds_of, shape_at, way_of}
use Rattle.cg_certcheck_context.specs.Contexts.{context_of}
use Rattle.cg_certcheck_gots.specs.Gots.{fields_in, got_in}
use Rattle.cg_certcheck_context.specs.View.{Agrees, cursor_of}
use Rattle.cg_core.specs.Kernels.{function_of, the_term}
use Rattle.cg_core.specs.Terms.{to_trees}
use Rattle.cg_faults.specs.Events.{later_directions, next_direction, part_directions}
use Rattle.cg_certcheck_def.specs.Pass.{Got, bind, check, check_fields, test}
use Rattle.cg_typing.specs.Contexts.{first, second}
use Rattle.cg_typing.specs.Parts.{is_small_enough}
use Rattle.cg_typing.specs.Trees.{first_marks, later_marks}
use Rattle.cg_typing.specs.Rules.{is_literal, note_at}
use Rattle.cg_typing_parts.specs.Views.{the_sort}
use Rattle.cg_certcheck.proofs.pass.+check.Goals as goal
use Rattle.cg_certcheck.proofs.pass.+check.Goals.{check_op-in_default-via-then-as_slice-lt1, check_op-in_default-via-else-as_slice-lt1+else-this-lt2+else-this-lt3}
use Rattle.cg_core.proofs.Operands.{one_operand, two_operands}

pub check_op-check_unary-requires : goal.check_op-check_unary-requires
check_op-check_unary-requires t c =
    let e = size_one c.as_slice.result.now c.part-item.result c.in-len1.len_at_least c.in-len1.len_below c.part-item.is in
    omega (arith, ap (λ ts. sizes (to_trees (map the_term ts))) c.as_slice.ensures, e)

pub check_op-check_binary-requires : goal.check_op-check_binary-requires
check_op-check_binary-requires t c =
    let e = size_two c.as_slice.result.now c.left-item.result c.right-item.result c.in-len2.len_at_least c.in-len2.len_below c.left-item.is c.right-item.is in
    omega (arith, ap (λ ts. sizes (to_trees (map the_term ts))) c.as_slice.ensures, e)

pub check_op-returns-in-len1 : goal.check_op-returns-in-len1
check_op-returns-in-len1 t c =
    let e = one_operand c.as_slice.result.now c.part-item.result c.in-len1.len_at_least c.in-len1.len_below c.part-item.is in
    rw (sym c.as_slice.ensures, e) c.check_unary.ensures

pub check_op-returns-in-len2 : goal.check_op-returns-in-len2
check_op-returns-in-len2 t c =
    let e = two_operands c.as_slice.result.now c.left-item.result c.right-item.result c.in-len2.len_at_least c.in-len2.len_below c.left-item.is c.right-item.is in
    rw (sym c.as_slice.ensures, e) c.check_binary.ensures

pub check_op-returns-in_default : goal.check_op-returns-in_default
check_op-returns-in_default t c =
    let other : (length c.as_slice.result.now ≡ 1 → ⊥) × (length c.as_slice.result.now ≡ 2 → ⊥) =
    elim c.in_default.branch [ check_op-in_default-via-then-as_slice-lt1 w ↦ (λ one. grind (arith, one, w), λ two. grind (arith, two, w)) | check_op-in_default-via-else-as_slice-lt1+else-this-lt2+else-this-lt3 w ↦ (λ one. grind (arith, one, w), λ two. grind (arith, two, w)) ] in
    let e = other_operands (map function_of c.args.source.now.functions.now) (bounds_of c.args.source.now.vars.now) (context_of (bounds_of c.args.source.now.vars.now) c.args.context.now)
    (way_of (option_copied c.args.direction)) (cursor_of c.args.source.now.nodes.now c.args.at) c.args.place c.args.op c.as_slice.result.now other.0 other.1 in
    rw (sym c.as_slice.ensures) e

pub check_fields-returns-in-None : goal.check_fields-returns-in-None
check_fields-returns-in-None t c =
    let none : length c.args.fields.now < 1 = grind (arith, c.in-None.ensures.variant, c.in-None.ensures.cases) in
    fields_none (map function_of c.args.source.now.functions.now) (bounds_of c.args.source.now.vars.now) (context_of (bounds_of c.args.source.now.vars.now) c.args.context.now)
    (part_directions (to_parts (map part_of c.args.wanted.now))) c.args.strings.now (cursor_of c.args.source.now.nodes.now c.args.at) c.args.fields.now none
    ∙ ap Ok (sym c.no_fields.ensures)

pub check_all_fields-check_next_field-requires : goal.check_all_fields-check_next_field-requires
check_all_fields-check_next_field-requires t c =
    let e = size_next c.args.front.now c.args.last.now c.field-item.result c.loop-field.field-index (omega arith) c.field-item.is in
    omega (arith, e)

pub check_all_fields-check_last_field-requires : goal.check_all_fields-check_last_field-requires
check_all_fields-check_last_field-requires t c =
    let e = size_last c.args.front.now c.args.last.now in
    omega (arith, e)

pub check_all_fields-loop-field-preserved : goal.check_all_fields-loop-field-preserved
check_all_fields-loop-field-preserved t c =
    let f = map function_of c.args.source.now.functions.now in
    let v = bounds_of c.args.source.now.vars.now in
    let nodes = c.args.source.now.nodes.now in
    let g = context_of v c.loop-field.context.items in
    let ds = part_directions (to_parts (map part_of c.loop-field.wanted.now)) in
    let ss = c.loop-field.strings.now in
    let got = c.in_ok-got.got in
    let behind = cursor_of nodes got.at in
    let later = named_with (drop (c.loop-field.field-index + 1) c.args.front.now) c.args.last.now in
    let is : c.deref.result.now ≡ c.loop-field.context.items = cc (c.deref.ensures.value) in
    let is_too : c.deref-in-loop-field.result.now ≡ c.loop-field.context.items = cc (c.deref-in-loop-field.ensures.value) in
    let gives : check f v (first (first_marks ss) g) (next_direction ds) (cursor_of nodes c.loop-field.at) (the_term c.field-item.result.term) ≡ Ok (got_in nodes got) =
    ap (λ l. check f v (first (first_marks ss) (context_of v l)) (next_direction ds) (cursor_of nodes c.loop-field.at) (the_term c.field-item.result.term)) (sym is) ∙ c.in_ok-got.ensures in
    let context : context_of v c.in_ok-context.context.items ≡ second (first_marks ss) g =
    c.in_ok-context.ensures ∙ ap (λ m. second m (context_of v c.deref-in-loop-field.result.now)) c.next_marks.ensures ∙ ap (λ l. second (first_marks ss) (context_of v l)) is_too in
    let moved = ap (λ x. check_fields f v x (later_directions ds) (later_marks ss) behind later) (sym context)
    ∙ ap (λ x. check_fields f v (context_of v c.in_ok-context.context.items) x (later_marks ss) behind later) (sym c.later_wanted-wanted.ensures)
    ∙ ap (λ x. check_fields f v (context_of v c.in_ok-context.context.items) (part_directions (to_parts (map part_of c.later_wanted-wanted.result.now))) x behind later)
    (sym c.later_strings-strings.ensures) in
    c.loop-field.invariant
    ∙ next_field f v g ds ss (cursor_of nodes c.loop-field.at) c.args.front.now c.args.last.now c.loop-field.field-index nodes c.loop-field.before c.push.new.self _ c.field-item.result
    c.in_ok-push.ensures.ok (omega arith) c.field-item.is gives refl
    ∙ ap (ahead nodes c.push.new.self) moved

pub check_all_fields-returns-in_err-got : goal.check_all_fields-returns-in_err-got
check_all_fields-returns-in_err-got t c =
    let f = map function_of c.args.source.now.functions.now in
    let v = bounds_of c.args.source.now.vars.now in
    let nodes = c.args.source.now.nodes.now in
    let g = context_of v c.loop-field.context.items in
    let ds = part_directions (to_parts (map part_of c.loop-field.wanted.now)) in
    let ss = c.loop-field.strings.now in
    let at = cursor_of nodes c.loop-field.at in
    let e = c.in_err-got.field-0.0 in
    let is : c.deref.result.now ≡ c.loop-field.context.items = cc (c.deref.ensures.value) in
    let stops : Agrees (fields_in nodes) (Err e) (ahead nodes c.loop-field.before (check_fields f v g ds ss at (named_with (drop c.loop-field.field-index c.args.front.now) c.args.last.now))) =
    next_fails f v g ds ss at c.args.front.now c.args.last.now c.loop-field.field-index (got_in nodes) (fields_in nodes) nodes c.loop-field.before c.field-item.result e (omega arith)
    c.field-item.is (subst (λ l. Agrees (got_in nodes) (Err e) (check f v (first (first_marks ss) (context_of v l)) (next_direction ds) at (the_term c.field-item.result.term))) is c.in_err-got.ensures) in
    let gives : c.from_residual.result ≡ Err e = search rules in
    subst (λ r. Agrees (fields_in nodes) r (check_fields f v (context_of v c.args.context.items) (part_directions (to_parts (map part_of c.args.wanted.now))) c.args.strings.now
    (cursor_of nodes c.args.at) (named_with c.args.front.now c.args.last.now))) (sym gives)
    (subst (λ o. Agrees (fields_in nodes) (Err e) o) (sym c.loop-field.invariant) stops)

pub check_all_fields-returns-in_err-made : goal.check_all_fields-returns-in_err-made
check_all_fields-returns-in_err-made t c =
    let f = map function_of c.args.source.now.functions.now in
    let v = bounds_of c.args.source.now.vars.now in
    let nodes = c.args.source.now.nodes.now in
    let g = context_of v c.loop-field.context.items in
    let ds = part_directions (to_parts (map part_of c.loop-field.wanted.now)) in
    let at = cursor_of nodes c.loop-field.at in
    let e = c.in_err-made.field-0.0 in
    let last = last_field f v g ds at c.args.last.now.name (the_term c.args.last.now.term) in
    let is : c.deref-2.result.now ≡ c.loop-field.context.items = cc (c.deref-2.ensures.value) in
    let stops : Agrees (fields_in nodes) (Err e) (ahead nodes c.loop-field.before last) =
    goes_on (fields_in nodes) (fields_in nodes) e last (λ u. Ok (all_before nodes c.loop-field.before u))
    (subst (λ l. Agrees (fields_in nodes) (Err e) (last_field f v (context_of v l) ds at c.args.last.now.name (the_term c.args.last.now.term))) is c.in_err-made.ensures) in
    let gives : c.from_residual-in_err-made.result ≡ Err e = search rules in
    let left = none_left f v g ds c.loop-field.strings.now at c.args.front.now c.args.last.now c.loop-field.field-index (omega arith) in
    subst (λ r. Agrees (fields_in nodes) r (check_fields f v (context_of v c.args.context.items) (part_directions (to_parts (map part_of c.args.wanted.now))) c.args.strings.now
    (cursor_of nodes c.args.at) (named_with c.args.front.now c.args.last.now))) (sym gives)
    (subst (λ o. Agrees (fields_in nodes) (Err e) o) (sym (c.loop-field.invariant ∙ ap (ahead nodes c.loop-field.before) left)) stops)

pub check_all_fields-returns : goal.check_all_fields-returns
check_all_fields-returns t c =
    let f = map function_of c.args.source.now.functions.now in
    let v = bounds_of c.args.source.now.vars.now in
    let nodes = c.args.source.now.nodes.now in
    let ds = part_directions (to_parts (map part_of c.loop-field.wanted.now)) in
    let at = cursor_of nodes c.loop-field.at in
    let is : c.deref-2.result.now ≡ c.loop-field.context.items = cc (c.deref-2.ensures.value) in
    let left = none_left f v (context_of v c.loop-field.context.items) ds c.loop-field.strings.now at c.args.front.now c.args.last.now c.loop-field.field-index (omega arith) in
    subst (λ o. Agrees (fields_in nodes) c.all_in_front.result o)
    (sym (c.loop-field.invariant ∙ ap (ahead nodes c.loop-field.before) (left
    ∙ ap (λ l. last_field f v (context_of v l) ds at c.args.last.now.name (the_term c.args.last.now.term)) (sym is) ∙ c.in_ok-made.ensures))) c.all_in_front.ensures

pub check_operands-returns-then-is_by_right : goal.check_operands-returns-then-is_by_right
check_operands-returns-then-is_by_right t c =
    let way = way_of (option_copied c.args.direction) in
    let test : is_by_right (the_sort c.args.operator.sort) way (is_literal (the_term c.args.left.now)) ≡ true = cc (c.is_by_right.ensures, c.if-is_by_right.true, c.is_literal.ensures) in
    let is = by_right_then (map function_of c.args.source.now.functions.now) (bounds_of c.args.source.now.vars.now) (the_sort c.args.operator.sort) c.args.marks.now
    (context_of (bounds_of c.args.source.now.vars.now) c.args.context.now) way c.args.operator.number (cursor_of c.args.source.now.nodes.now c.args.at) c.args.operator.place c.args.operator.op
    (the_term c.args.left.now) (the_term c.args.right.now) test in
    rw is c.check_by_right.ensures

pub check_operands-returns-else-is_by_right : goal.check_operands-returns-else-is_by_right
check_operands-returns-else-is_by_right t c =
    let way = way_of (option_copied c.args.direction) in
    let test : is_by_right (the_sort c.args.operator.sort) way (is_literal (the_term c.args.left.now)) ≡ false = cc (c.is_by_right.ensures, c.if-is_by_right.false, c.is_literal.ensures) in
    let is = by_left_else (map function_of c.args.source.now.functions.now) (bounds_of c.args.source.now.vars.now) (the_sort c.args.operator.sort) c.args.marks.now
    (context_of (bounds_of c.args.source.now.vars.now) c.args.context.now) way c.args.operator.number (cursor_of c.args.source.now.nodes.now c.args.at) c.args.operator.place c.args.operator.op
    (the_term c.args.left.now) (the_term c.args.right.now) test in
    rw is c.check_by_left.ensures

pub check_term-returns : goal.check_term-returns
check_term-returns t c =
    subst (λ o. Agrees (got_in c.args.source.now.nodes.now) c.small.result o)
    (sym (ap (λ o. bind {B = Got} o (λ u. test (Limit Ty) (is_small_enough u.ty) (Ok u))) c.in_ok-got.ensures)
    ∙ check_is (map function_of c.args.source.now.functions.now) (bounds_of c.args.source.now.vars.now) (context_of (bounds_of c.args.source.now.vars.now) c.args.context.now)
    (way_of (option_copied c.args.direction)) (cursor_of c.args.source.now.nodes.now c.args.at) (the_term c.args.term.now)) c.small.ensures

pub check_term-returns-in_err-got : goal.check_term-returns-in_err-got
check_term-returns-in_err-got t c =
    let f = map function_of c.args.source.now.functions.now in
    let v = bounds_of c.args.source.now.vars.now in
    let g = context_of (bounds_of c.args.source.now.vars.now) c.args.context.now in
    let d = way_of (option_copied c.args.direction) in
    let at = cursor_of c.args.source.now.nodes.now c.args.at in
    let e = the_term c.args.term.now in
    let k = λ (u : Got). test (Limit Ty) (is_small_enough u.ty) (Ok u) in
    let stops : Agrees (got_in c.args.source.now.nodes.now) (Err c.in_err-got.field-0.0) (bind (form_by f v g d at (note_at e) (shape_at e)) k) =
    goes_on (got_in c.args.source.now.nodes.now) (got_in c.args.source.now.nodes.now) c.in_err-got.field-0.0 (form_by f v g d at (note_at e) (shape_at e)) k c.in_err-got.ensures in
    let gives : c.from_residual.result ≡ Err c.in_err-got.field-0.0 = search rules in
    subst (λ r. Agrees (got_in c.args.source.now.nodes.now) r (check f v g d at e)) (sym gives)
    (subst (λ o. Agrees (got_in c.args.source.now.nodes.now) (Err c.in_err-got.field-0.0) o) (check_is f v g d at e) stops)
