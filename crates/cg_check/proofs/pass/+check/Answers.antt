use Rattle.std.proofs.Common.{rules, ◌≡◌, true, false, Err, arith, ap, length, map, refl, sym, subst, ◌∙◌}
use Rattle.std.proofs.lemmas.List.{map-id}
use Rattle.std.proofs.lemmas.Slice.Zip.{AllZip-map}
use Rattle.cg_base.specs.Types.{part_of, to_parts}
use Rattle.cg_check.proofs.FieldSteps.{all_found, fields_come, fields_stop, next_found, none_found, size_at, stop_found}
use Rattle.cg_check.specs.Gathered.{nameds_of}
use Rattle.cg_faults.specs.Events.{part_directions}
use Rattle.std.specs.Option.{option_copied}
use Rattle.cg_check_context.specs.View.{Agrees, entries_of, types_in}
use Rattle.cg_check_pieces.specs.View.{bounds_of, way_of}
use Rattle.cg_check_nodes.specs.Gots.{got_of}
use Rattle.cg_check.proofs.ArmSteps.{esac_arm, struct_arm, let_arm, let_bang_arm, if_arm, case_arm, member_arm, take_arm, put_arm}
use Rattle.cg_check.proofs.FormSteps.{binary_is, by_left_else, by_right_then, esac_is, struct_is, unary_is, let_is, let_bang_is, if_is, case_is, member_is, take_is, put_is}
use Rattle.cg_check_context.proofs.ObservedSteps.{seen_types}
use Rattle.cg_check_def.specs.Pass.{check, check_shape}
use Rattle.cg_core.specs.Kernels.{function_of, the_field, the_term}
use Rattle.cg_core.specs.Terms.{to_named, to_trees, lets, let_bang, if_else, case_of, esac, struct, member, take_field, put}
use Rattle.cg_check_pieces.specs.Directions.{is_by_right}
use Rattle.cg_typing.specs.Operators.{sort_of}
use Rattle.cg_typing.specs.Rules.{is_literal}
use Rattle.cg_check.proofs.OperandSteps.{other_operands}
use Rattle.cg_check_pieces.proofs.TermSizes.{size_one, size_two, sizes}
use Rattle.cg_check.proofs.pass.+check.Goals as goal
use Rattle.cg_check.proofs.pass.+check.Goals.{check_op-in_default-via-then-as_slice-lt1, check_op-in_default-via-else-as_slice-lt1+else-this-lt2+else-this-lt3}
use Rattle.cg_core.proofs.Operands.{one_operand, two_operands}

pub check_op-check_unary-requires : goal.check_op-check_unary-requires
check_op-check_unary-requires t c =
    let e = size_one c.as_slice.result.now c.part-item.result c.in-len1.len_at_least c.in-len1.len_below c.part-item.is in
    omega (arith, ap (λ ts. sizes (to_trees (map the_term ts))) c.as_slice.ensures, e)

pub check_op-check_binary-requires : goal.check_op-check_binary-requires
check_op-check_binary-requires t c =
    let e = size_two c.as_slice.result.now c.left-item.result c.right-item.result c.in-len2.len_at_least c.in-len2.len_below c.left-item.is c.right-item.is in
    omega (arith, ap (λ ts. sizes (to_trees (map the_term ts))) c.as_slice.ensures, e)

pub check_op-returns-in-len1-clause-answer : goal.check_op-returns-in-len1-clause-answer
check_op-returns-in-len1-clause-answer t c =
    let e = one_operand c.as_slice.result.now c.part-item.result c.in-len1.len_at_least c.in-len1.len_below c.part-item.is in
    let is = unary_is c.args.op c.args.place c.args.before.now.items (sort_of c.args.op) (way_of (option_copied c.args.direction)) (λ flags way. check (map function_of c.args.source.now.functions.now) (bounds_of c.args.source.now.vars.now) (types_in (entries_of c.args.context.now.items)) flags way (the_term c.part-item.result)) in
    rw (sym c.as_slice.ensures, e) (subst (λ x. Agrees got_of c.check_unary.result x) is c.check_unary.ensures.answer)

pub check_op-returns-in-len2-clause-answer : goal.check_op-returns-in-len2-clause-answer
check_op-returns-in-len2-clause-answer t c =
    let e = two_operands c.as_slice.result.now c.left-item.result c.right-item.result c.in-len2.len_at_least c.in-len2.len_below c.left-item.is c.right-item.is in
    let is = binary_is c.args.op c.args.place c.args.before.now.items (sort_of c.args.op) (way_of (option_copied c.args.direction)) (is_literal (the_term c.left-item.result))
    (λ flags way. check (map function_of c.args.source.now.functions.now) (bounds_of c.args.source.now.vars.now) (types_in (entries_of c.args.context.now.items)) flags way (the_term c.left-item.result))
    (λ flags way. check (map function_of c.args.source.now.functions.now) (bounds_of c.args.source.now.vars.now) (types_in (entries_of c.args.context.now.items)) flags way (the_term c.right-item.result)) in
    rw (sym c.as_slice.ensures, e) (subst (λ x. Agrees got_of c.check_binary.result x) is c.check_binary.ensures.answer)

pub check_op-returns-in_default-clause-answer : goal.check_op-returns-in_default-clause-answer
check_op-returns-in_default-clause-answer t c =
    let other : (length c.as_slice.result.now ≡ 1 → ⊥) × (length c.as_slice.result.now ≡ 2 → ⊥) =
    elim c.in_default.branch [ check_op-in_default-via-then-as_slice-lt1 w ↦ (λ one. grind (arith, one, w), λ two. grind (arith, two, w)) | check_op-in_default-via-else-as_slice-lt1+else-this-lt2+else-this-lt3 w ↦ (λ one. grind (arith, one, w), λ two. grind (arith, two, w)) ] in
    let e = other_operands (map function_of c.args.source.now.functions.now) (bounds_of c.args.source.now.vars.now) (types_in (entries_of c.args.context.now.items))
    c.args.before.now.items (way_of (option_copied c.args.direction)) c.args.place c.args.op c.as_slice.result.now other.0 other.1 in
    rw (sym c.as_slice.ensures, e) c.check_bare.ensures

pub check_binary-returns-then-is_by_right-clause-answer : goal.check_binary-returns-then-is_by_right-clause-answer
check_binary-returns-then-is_by_right-clause-answer t c =
    let test : is_by_right (sort_of c.args.op) (way_of (option_copied c.args.direction)) (is_literal (the_term c.args.left.now)) ≡ true =
    cc (c.is_by_right.ensures, c.if-is_by_right.true, c.sort_of-sort.ensures, c.is_literal.ensures) in
    let is = by_right_then (sort_of c.args.op) c.args.op (way_of (option_copied c.args.direction)) c.args.place (is_literal (the_term c.args.left.now)) c.args.before.now.items
    (λ flags way. check (map function_of c.args.source.now.functions.now) (bounds_of c.args.source.now.vars.now) (types_in (entries_of c.args.context.now.items)) flags way (the_term c.args.left.now))
    (λ flags way. check (map function_of c.args.source.now.functions.now) (bounds_of c.args.source.now.vars.now) (types_in (entries_of c.args.context.now.items)) flags way (the_term c.args.right.now)) test in
    rw is (rw (sym c.sort_of-sort.ensures) c.check_by_right.ensures.answer)

pub check_binary-returns-else-is_by_right-clause-answer : goal.check_binary-returns-else-is_by_right-clause-answer
check_binary-returns-else-is_by_right-clause-answer t c =
    let test : is_by_right (sort_of c.args.op) (way_of (option_copied c.args.direction)) (is_literal (the_term c.args.left.now)) ≡ false =
    cc (c.is_by_right.ensures, c.if-is_by_right.false, c.sort_of-sort.ensures, c.is_literal.ensures) in
    let is = by_left_else (sort_of c.args.op) c.args.op (way_of (option_copied c.args.direction)) c.args.place (is_literal (the_term c.args.left.now)) c.args.before.now.items
    (λ flags way. check (map function_of c.args.source.now.functions.now) (bounds_of c.args.source.now.vars.now) (types_in (entries_of c.args.context.now.items)) flags way (the_term c.args.left.now))
    (λ flags way. check (map function_of c.args.source.now.functions.now) (bounds_of c.args.source.now.vars.now) (types_in (entries_of c.args.context.now.items)) flags way (the_term c.args.right.now)) test in
    rw is (rw (sym c.sort_of-sort.ensures) c.check_by_left.ensures.answer)

pub check_form-returns-in-Let-clause-answer : goal.check_form-returns-in-Let-clause-answer
check_form-returns-in-Let-clause-answer t c =
    let a : Agrees got_of c.check_let.result (check_shape (map function_of c.args.source.now.functions.now) (bounds_of c.args.source.now.vars.now) (types_in (entries_of c.args.context.now.items)) c.args.before.now.items (way_of (option_copied c.args.direction)) c.args.term.now.note (lets c.in-Let.binder (the_term c.deref-in-Let.result.now) (the_term c.deref-in-Let-2.result.now)))
    = subst (λ x. Agrees got_of c.check_let.result x) (let_is (map function_of c.args.source.now.functions.now) (bounds_of c.args.source.now.vars.now) (types_in (entries_of c.args.context.now.items)) c.args.before.now.items (way_of (option_copied c.args.direction)) c.args.term.now.note c.in-Let.binder (the_term c.deref-in-Let.result.now) (the_term c.deref-in-Let-2.result.now)) c.check_let.ensures.answer in
    rw (let_arm c.args.term.now c.in-Let.binder c.in-Let.value c.in-Let.body c.in-Let.is, sym c.deref-in-Let.ensures, sym c.deref-in-Let-2.ensures) a

pub check_form-returns-in-LetBang-clause-answer : goal.check_form-returns-in-LetBang-clause-answer
check_form-returns-in-LetBang-clause-answer t c =
    let a : Agrees got_of c.check_let_bang.result (check_shape (map function_of c.args.source.now.functions.now) (bounds_of c.args.source.now.vars.now) (types_in (entries_of c.args.context.now.items)) c.args.before.now.items (way_of (option_copied c.args.direction)) c.args.term.now.note (let_bang c.in-LetBang.observers c.in-LetBang.binder (the_term c.deref-in-LetBang.result.now) (the_term c.deref-in-LetBang-2.result.now)))
    = subst (λ x. Agrees got_of c.check_let_bang.result x) (let_bang_is (map function_of c.args.source.now.functions.now) (bounds_of c.args.source.now.vars.now) (types_in (entries_of c.args.context.now.items)) c.args.before.now.items (way_of (option_copied c.args.direction)) c.args.term.now.note c.in-LetBang.observers c.in-LetBang.binder (the_term c.deref-in-LetBang.result.now) (the_term c.deref-in-LetBang-2.result.now)) c.check_let_bang.ensures.answer in
    rw (let_bang_arm c.args.term.now c.in-LetBang.observers c.in-LetBang.binder c.in-LetBang.value c.in-LetBang.body c.in-LetBang.is, sym c.deref-in-LetBang.ensures, sym c.deref-in-LetBang-2.ensures) a

pub check_form-returns-in-If-clause-answer : goal.check_form-returns-in-If-clause-answer
check_form-returns-in-If-clause-answer t c =
    let a : Agrees got_of c.check_if.result (check_shape (map function_of c.args.source.now.functions.now) (bounds_of c.args.source.now.vars.now) (types_in (entries_of c.args.context.now.items)) c.args.before.now.items (way_of (option_copied c.args.direction)) c.args.term.now.note (if_else (the_term c.deref-in-If.result.now) (the_term c.deref-in-If-2.result.now) (the_term c.deref-in-If-3.result.now)))
    = subst (λ x. Agrees got_of c.check_if.result x) (if_is (map function_of c.args.source.now.functions.now) (bounds_of c.args.source.now.vars.now) (types_in (entries_of c.args.context.now.items)) c.args.before.now.items (way_of (option_copied c.args.direction)) c.args.term.now.note (the_term c.deref-in-If.result.now) (the_term c.deref-in-If-2.result.now) (the_term c.deref-in-If-3.result.now)) c.check_if.ensures.answer in
    rw (if_arm c.args.term.now c.in-If.test c.in-If.first c.in-If.second c.in-If.is, sym c.deref-in-If.ensures, sym c.deref-in-If-2.ensures, sym c.deref-in-If-3.ensures) a

pub check_form-returns-in-Case-clause-answer : goal.check_form-returns-in-Case-clause-answer
check_form-returns-in-Case-clause-answer t c =
    let a : Agrees got_of c.check_case.result (check_shape (map function_of c.args.source.now.functions.now) (bounds_of c.args.source.now.vars.now) (types_in (entries_of c.args.context.now.items)) c.args.before.now.items (way_of (option_copied c.args.direction)) c.args.term.now.note (case_of (the_term c.deref-in-Case.result.now) c.in-Case.at c.in-Case.binder (the_term c.deref-in-Case-2.result.now) (the_term c.deref-in-Case-3.result.now)))
    = subst (λ x. Agrees got_of c.check_case.result x) (case_is (map function_of c.args.source.now.functions.now) (bounds_of c.args.source.now.vars.now) (types_in (entries_of c.args.context.now.items)) c.args.before.now.items (way_of (option_copied c.args.direction)) c.args.term.now.note (the_term c.deref-in-Case.result.now) c.in-Case.at c.in-Case.binder (the_term c.deref-in-Case-2.result.now) (the_term c.deref-in-Case-3.result.now)) c.check_case.ensures.answer in
    rw (case_arm c.args.term.now c.in-Case.value c.in-Case.at c.in-Case.binder c.in-Case.first c.in-Case.second c.in-Case.is, sym c.deref-in-Case.ensures, sym c.deref-in-Case-2.ensures, sym c.deref-in-Case-3.ensures) a

pub check_form-returns-in-Esac-clause-answer : goal.check_form-returns-in-Esac-clause-answer
check_form-returns-in-Esac-clause-answer t c =
    let a : Agrees got_of c.check_esac.result (check_shape (map function_of c.args.source.now.functions.now) (bounds_of c.args.source.now.vars.now) (types_in (entries_of c.args.context.now.items)) c.args.before.now.items (way_of (option_copied c.args.direction)) c.args.term.now.note (esac c.in-Esac.at (the_term c.deref-in-Esac.result.now)))
    = subst (λ x. Agrees got_of c.check_esac.result x) (esac_is (map function_of c.args.source.now.functions.now) (bounds_of c.args.source.now.vars.now) (types_in (entries_of c.args.context.now.items)) c.args.before.now.items (way_of (option_copied c.args.direction)) c.args.term.now.note (the_term c.deref-in-Esac.result.now) c.in-Esac.at) c.check_esac.ensures.answer in
    rw (esac_arm c.args.term.now c.in-Esac.at c.in-Esac.part c.in-Esac.is, sym c.deref-in-Esac.ensures) a

pub check_form-returns-in-Struct-clause-answer : goal.check_form-returns-in-Struct-clause-answer
check_form-returns-in-Struct-clause-answer t c =
    let a : Agrees got_of c.check_struct.result (check_shape (map function_of c.args.source.now.functions.now) (bounds_of c.args.source.now.vars.now) (types_in (entries_of c.args.context.now.items)) c.args.before.now.items (way_of (option_copied c.args.direction)) c.args.term.now.note (struct (to_named (map the_field c.in-Struct.fields))))
    = subst (λ x. Agrees got_of c.check_struct.result x) (struct_is (map function_of c.args.source.now.functions.now) (bounds_of c.args.source.now.vars.now) (types_in (entries_of c.args.context.now.items)) c.args.before.now.items (way_of (option_copied c.args.direction)) c.args.term.now.note (to_named (map the_field c.in-Struct.fields))) c.check_struct.ensures.answer in
    rw (struct_arm c.args.term.now c.in-Struct.fields c.in-Struct.is) a

pub check_form-returns-in-Member-clause-answer : goal.check_form-returns-in-Member-clause-answer
check_form-returns-in-Member-clause-answer t c =
    let a : Agrees got_of c.check_member.result (check_shape (map function_of c.args.source.now.functions.now) (bounds_of c.args.source.now.vars.now) (types_in (entries_of c.args.context.now.items)) c.args.before.now.items (way_of (option_copied c.args.direction)) c.args.term.now.note (member (the_term c.deref-in-Member.result.now) c.in-Member.at))
    = subst (λ x. Agrees got_of c.check_member.result x) (member_is (map function_of c.args.source.now.functions.now) (bounds_of c.args.source.now.vars.now) (types_in (entries_of c.args.context.now.items)) c.args.before.now.items (way_of (option_copied c.args.direction)) c.args.term.now.note (the_term c.deref-in-Member.result.now) c.in-Member.at) c.check_member.ensures.answer in
    rw (member_arm c.args.term.now c.in-Member.part c.in-Member.at c.in-Member.is, sym c.deref-in-Member.ensures) a

pub check_form-returns-in-Take-clause-answer : goal.check_form-returns-in-Take-clause-answer
check_form-returns-in-Take-clause-answer t c =
    let a : Agrees got_of c.check_take.result (check_shape (map function_of c.args.source.now.functions.now) (bounds_of c.args.source.now.vars.now) (types_in (entries_of c.args.context.now.items)) c.args.before.now.items (way_of (option_copied c.args.direction)) c.args.term.now.note (take_field (the_term c.deref-in-Take.result.now) c.in-Take.at c.in-Take.rest c.in-Take.binder (the_term c.deref-in-Take-2.result.now)))
    = subst (λ x. Agrees got_of c.check_take.result x) (take_is (map function_of c.args.source.now.functions.now) (bounds_of c.args.source.now.vars.now) (types_in (entries_of c.args.context.now.items)) c.args.before.now.items (way_of (option_copied c.args.direction)) c.args.term.now.note (the_term c.deref-in-Take.result.now) c.in-Take.at c.in-Take.rest c.in-Take.binder (the_term c.deref-in-Take-2.result.now)) c.check_take.ensures.answer in
    rw (take_arm c.args.term.now c.in-Take.value c.in-Take.at c.in-Take.rest c.in-Take.binder c.in-Take.body c.in-Take.is, sym c.deref-in-Take.ensures, sym c.deref-in-Take-2.ensures) a

pub check_form-returns-in-Put-clause-answer : goal.check_form-returns-in-Put-clause-answer
check_form-returns-in-Put-clause-answer t c =
    let a : Agrees got_of c.check_put.result (check_shape (map function_of c.args.source.now.functions.now) (bounds_of c.args.source.now.vars.now) (types_in (entries_of c.args.context.now.items)) c.args.before.now.items (way_of (option_copied c.args.direction)) c.args.term.now.note (put (the_term c.deref-in-Put.result.now) c.in-Put.at (the_term c.deref-in-Put-2.result.now)))
    = subst (λ x. Agrees got_of c.check_put.result x) (put_is (map function_of c.args.source.now.functions.now) (bounds_of c.args.source.now.vars.now) (types_in (entries_of c.args.context.now.items)) c.args.before.now.items (way_of (option_copied c.args.direction)) c.args.term.now.note (the_term c.deref-in-Put.result.now) c.in-Put.at (the_term c.deref-in-Put-2.result.now)) c.check_put.ensures.answer in
    rw (put_arm c.args.term.now c.in-Put.value c.in-Put.at c.in-Put.part c.in-Put.is, sym c.deref-in-Put.ensures, sym c.deref-in-Put-2.ensures) a

pub check_observed-returns-clause-answer : goal.check_observed-returns-clause-answer
check_observed-returns-clause-answer t c = search (rules, seen_types)

-- ---- fields

pub check_each-loop-field-init : goal.check_each-loop-field-init
check_each-loop-field-init t c = (
  none_found (map function_of c.args.source.now.functions.now) (bounds_of c.args.source.now.vars.now) (types_in (entries_of c.args.context.now.items)) c.args.fields.now c.new-gots.result
      c.in_ok-flags.flags.items c.args.before.now.items (part_directions (to_parts (map part_of c.args.wanted.now))) c.new-gots.ensures
      (AllZip-map (λ b. b) _ _ c.in_ok-flags.ensures.cases.0 ∙ map-id _),
  refl,
)

pub check_each-check_term-requires : goal.check_each-check_term-requires
check_each-check_term-requires t c =
    let e = size_at c.args.fields.now c.loop-field.field-index c.field-item.result c.loop-field-test.true c.field-item.is in
    omega (arith, e)

pub check_each-returns-in_err-got-clause-answer : goal.check_each-returns-in_err-got-clause-answer
check_each-returns-in_err-got-clause-answer t c =
    let gives : c.from_residual-in_err-got.result ≡ Err c.in_err-got.field-0.0 = search rules in
    let same : entries_of c.loop-field.context.items ≡ entries_of c.args.context.now.items = c.loop-field.invariant.1 in
    let a = stop_found (map function_of c.args.source.now.functions.now) (bounds_of c.args.source.now.vars.now) (types_in (entries_of c.args.context.now.items)) c.args.fields.now
    c.loop-field.field-index c.field-item.result (nameds_of c.loop-field.gots) c.loop-field.flags.items (part_directions (to_parts (map part_of c.loop-field.wanted.now))) c.in_err-got.field-0.0
    c.loop-field-test.true c.field-item.is (rw (sym same, sym c.next_wanted.ensures) c.in_err-got.ensures.answer) in
    rw (gives, c.loop-field.invariant.0) a

pub check_each-loop-field-preserved : goal.check_each-loop-field-preserved
check_each-loop-field-preserved t c =
    let same : entries_of c.loop-field.context.items ≡ entries_of c.args.context.now.items = c.loop-field.invariant.1 in (
      c.loop-field.invariant.0
          ∙ next_found (map function_of c.args.source.now.functions.now) (bounds_of c.args.source.now.vars.now) (types_in (entries_of c.args.context.now.items)) c.args.fields.now
          c.loop-field.field-index c.field-item.result c.loop-field.gots c.push.new.self _ c.loop-field.flags.items c.in_ok-flags-2.flags.items
          (part_directions (to_parts (map part_of c.loop-field.wanted.now))) (part_directions (to_parts (map part_of c.later_wanted-wanted.result.now)))
          c.loop-field-test.true c.field-item.is c.in_ok-push.ensures.ok refl (rw (sym same, sym c.next_wanted.ensures) c.in_ok-got.ensures.answer)
          (cc (c.in_ok-flags-2.ensures, c.deref.ensures.value, c.deref-in-loop-field.ensures.value)) c.later_wanted-wanted.ensures,
      c.in_ok-got.ensures.same ∙ same,
    )

pub check_each-returns-clause-answer : goal.check_each-returns-clause-answer
check_each-returns-clause-answer t c =
    c.loop-field.invariant.0
    ∙ all_found (map function_of c.args.source.now.functions.now) (bounds_of c.args.source.now.vars.now) (types_in (entries_of c.args.context.now.items)) c.args.fields.now
    c.loop-field.field-index (nameds_of c.loop-field.gots) c.loop-field.flags.items (part_directions (to_parts (map part_of c.loop-field.wanted.now)))
    c.loop-field-test.false

pub check_each-returns-clause-same : goal.check_each-returns-clause-same
check_each-returns-clause-same t c = c.loop-field.invariant.1

pub check_fields-returns-in_err-gots-clause-answer : goal.check_fields-returns-in_err-gots-clause-answer
check_fields-returns-in_err-gots-clause-answer t c =
    let gives : c.from_residual.result ≡ Err c.in_err-gots.field-0.0 = search rules in
    let a = fields_stop (map function_of c.args.source.now.functions.now) (bounds_of c.args.source.now.vars.now) (types_in (entries_of c.args.context.now.items)) c.args.fields.now
    c.args.before.now.items (part_directions (to_parts (map part_of c.args.wanted.now))) c.in_err-gots.field-0.0 c.in_err-gots.ensures.answer in
    rw gives a

pub check_fields-returns-clause-answer : goal.check_fields-returns-clause-answer
check_fields-returns-clause-answer t c =
    let same : entries_of c.check_each.new.context.items ≡ entries_of c.args.context.now.items = c.in_ok-gots.ensures.same in
    let e = fields_come (map function_of c.args.source.now.functions.now) (bounds_of c.args.source.now.vars.now) (types_in (entries_of c.args.context.now.items)) c.args.fields.now
    c.args.before.now.items (part_directions (to_parts (map part_of c.args.wanted.now))) (nameds_of c.in_ok-gots.gots) c.in_ok-gots.ensures.answer in
    rw (e, sym same) c.put_together.ensures
