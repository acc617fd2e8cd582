use Rattle.std.proofs.Common.{◌≡◌, OnOk, sym, subst, refl, arith}
use Rattle.std.proofs.lemmas.Result.{on_ok_weaker}
use Rattle.cg_base.specs.Types.{fields, type_of, variant}
use Rattle.cg_base.specs.declared.ty.Ty.{the_lemmas}
use Rattle.cg_heaptext_def.specs.Reading.{scalars}
use Rattle.cg_heaptext_def.specs.Trees.{bare, values_in}
use Rattle.cg_heaptext_values.specs.Values.{ValuesStand}
use Rattle.cg_heaptext_scalars.specs.Given.{Adds, pieces}
use Rattle.cg_heaptext_scalars.proofs.Adding.{none_added}
use Rattle.cg_heaptext_scalars.proofs.Boxes.{abstract_told, boxed_told}
use Rattle.cg_heaptext_scalars.proofs.Choosing.{applied_told, payload_added, payload_none}
use Rattle.cg_heaptext_scalars.proofs.Listing.{FieldsOf, field_over, field_passed, field_takes, fields_over, value_over, value_takes, values_over}
use Rattle.cg_heaptext_scalars.proofs.scalars.+add.Goals as goal

pub add-returns-in-Abs : goal.add-returns-in-Abs
add-returns-in-Abs t c = λ v s. subst (λ us. OnOk c.add_address.result (Adds c.args.out.now us c.add_address.new.out)) (abstract_told c.args.ty.now _ _ _ c.in-Abs.is (bare v)) (c.add_address.ensures v s)

pub add-returns-in-Variant : goal.add-returns-in-Variant
add-returns-in-Variant t c = λ v s.
    let is : type_of c.args.ty.now ≡ variant (pieces c.as_slice.result.now) = grind (arith, the_lemmas) in
    subst (λ t. OnOk c.add_variant.result (Adds c.args.out.now (scalars t (bare v)) c.add_variant.new.out)) (sym is) (c.add_variant.ensures v s)

pub add-returns-in-Fields : goal.add-returns-in-Fields
add-returns-in-Fields t c = λ v s.
    let is : type_of c.args.ty.now ≡ fields (pieces c.as_slice-in-Fields.result.now) c.in-Fields.sigil = grind (arith, the_lemmas) in
    subst (λ t. OnOk c.add_held.result (Adds c.args.out.now (scalars t (bare v)) c.add_held.new.out)) (sym is) (c.add_held.ensures v s)

pub add_held-returns-in-R : goal.add_held-returns-in-R
add_held-returns-in-R t c = λ v s. subst (λ us. OnOk c.add_address.result (Adds c.args.out.now us c.add_address.new.out)) (boxed_told (pieces c.args.parts.now) c.args.sigil c.in-R.is (bare v)) (c.add_address.ensures v s)

pub add_variant-returns-in-Applied : goal.add_variant-returns-in-Applied
add_variant-returns-in-Applied t c = λ v s.
    applied_told (pieces c.args.parts.now) c.in-Applied.name c.in-Applied.payload (bare v) (λ us. OnOk c.add_applied.result (Adds c.args.out.now us c.add_applied.new.out)) (c.in-Applied.ensures v s) c.add_applied.ensures

pub add_applied-returns-in_ok-add-in-Some : goal.add_applied-returns-in_ok-add-in-Some
add_applied-returns-in_ok-add-in-Some t c = λ v s.
    on_ok_weaker c.pad_parts.result (payload_added c.args.name.now v c.args.parts.now c.in-Some.at c.index-parts-at.result _ _ _ _ (sym c.in-Some.ensures.exact) c.in-Some.ensures.within c.in_ok-add_tag-in-Some.ensures (c.in_ok-add-in-Some.ensures v s)) c.pad_parts.ensures

pub add_applied-returns-in-None : goal.add_applied-returns-in-None
add_applied-returns-in-None t c = λ v s. none_added _ _ (payload_none c.args.name.now v c.args.parts.now (sym c.in-None.ensures.exact))

pub add_values-returns-in-None : goal.add_values-returns-in-None
add_values-returns-in-None t c =
    values_over ValuesStand c.args.parts.now c.args.values c.loop-part.values c.args.out.now c.loop-part.out c.loop-part.part-index c.loop-part.invariant (value_over c.loop-part.values c.next.new.self c.in-None.ensures)

pub add_values-loop-part-preserved : goal.add_values-loop-part-preserved
add_values-loop-part-preserved t c =
    field_passed ValuesStand c.args.parts.now c.args.values c.loop-part.values c.args.out.now c.loop-part.out c.loop-part.part-index c.loop-part.invariant c.part-item.result c.loop-part-test.true c.part-item.is
    c.in-Some.value c.next.new.self c.add_field.new.out (value_takes c.loop-part.values c.next.new.self c.in-Some.value c.in-Some.ensures) c.in_ok-add_field-in-Some.ensures

pub add_values-returns : goal.add_values-returns
add_values-returns t c =
    fields_over ValuesStand c.args.parts.now c.args.values c.loop-part.values c.args.out.now c.loop-part.out c.loop-part.part-index c.loop-part.invariant (omega (arith, c.loop-part-test.false))

pub add_fields-returns-in-None : goal.add_fields-returns-in-None
add_fields-returns-in-None t c = λ fs s.
    values_over FieldsOf c.args.parts.now c.args.fields c.loop-part.fields c.args.out.now c.loop-part.out c.loop-part.part-index c.loop-part.invariant (field_over c.loop-part.fields c.next.new.self c.in-None.ensures) (values_in fs) (fs, s, refl)

pub add_fields-loop-part-preserved : goal.add_fields-loop-part-preserved
add_fields-loop-part-preserved t c =
    field_passed FieldsOf c.args.parts.now c.args.fields c.loop-part.fields c.args.out.now c.loop-part.out c.loop-part.part-index c.loop-part.invariant c.part-item.result c.loop-part-test.true c.part-item.is
    c.in-Some.field.value c.next.new.self c.add_field.new.out (field_takes c.loop-part.fields c.next.new.self c.in-Some.field c.in-Some.ensures) c.in_ok-add_field-in-Some.ensures

pub add_fields-returns : goal.add_fields-returns
add_fields-returns t c = λ fs s.
    fields_over FieldsOf c.args.parts.now c.args.fields c.loop-part.fields c.args.out.now c.loop-part.out c.loop-part.part-index c.loop-part.invariant (omega (arith, c.loop-part-test.false)) (values_in fs) (fs, s, refl)
