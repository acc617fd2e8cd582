use Rattle.std.proofs.Common.{◌≡◌, IfOk, true, false, cond, sym, ap, ◌∙◌, subst, refl, arith}
use Rattle.std.specs.Str.{bytes_eq}
use Rattle.cg_base.specs.Types.{fields, type_of, variant}
use Rattle.cg_base.specs.declared.ty.Ty.{the_lemmas}
use Rattle.cg_heaptext_def.specs.HeapText.{cells_of}
use Rattle.cg_heaptext_def.specs.Reading.{slot_values, value, value_all}
use Rattle.cg_heaptext_def.specs.Trees.{amount, bare, values_in}
use Rattle.std.specs.Prelude.{Some}
use Rattle.cg_heaptext_entries.specs.Index.{numeral_of}
use Rattle.cg_heaptext_values.specs.Values.{ValuesStand}
use Rattle.cg_value.specs.Values as values
use Rattle.cg_value.specs.Values.{value_of}
use Rattle.cg_heaptext_value.specs.Capped.{capped_value, capped_values}
use Rattle.cg_heaptext_value.specs.Given.{boxed_in, pieces}
use Rattle.cg_heaptext_value.proofs.Digits.{by_address}
use Rattle.cg_heaptext_scalars.proofs.Listing.{FieldsOf, field_over, field_takes, value_over, value_takes}
use Rattle.cg_heaptext_value.proofs.Listing.{alternative_here, alternative_none, alternative_passed, field_passed, fields_over, going, no_fields_are, values_over}
use Rattle.cg_heaptext_value.proofs.Told.{abstract_told, applied_told, boxed_told, found_told, no_cell, other_form, record_told, slots_told, truth_type, tuple_told, word_type}
use Rattle.cg_heaptext_value.proofs.value.+read.Goals as goal

-- ---- by the type

pub read-returns-in-Word : goal.read-returns-in-Word
read-returns-in-Word t c = λ h a v s.
    subst (λ t. value_of c.word_value.result ≡ capped_value (value (cells_of h) t (bare v))) (sym (word_type c.args.ty.now c.in-Word.field-0 c.in-Word.is)) (c.word_value.ensures (cells_of h) c.in-Word.field-0 v s)

pub read-returns-in-Bool : goal.read-returns-in-Bool
read-returns-in-Bool t c = λ h a v s.
    subst (λ t. value_of c.truth_value.result ≡ capped_value (value (cells_of h) t (bare v))) (sym (truth_type c.args.ty.now c.in-Bool.is)) (c.truth_value.ensures (cells_of h) v s)

pub read-returns-in-Abs : goal.read-returns-in-Abs
read-returns-in-Abs t c = λ h a v s.
    subst (λ y. IfOk c.abstract_value.result (λ x. value_of x ≡ capped_value y)) (abstract_told (cells_of h) c.args.ty.now _ _ _ c.in-Abs.is (bare v)) (c.abstract_value.ensures h a v s)

pub read-returns-in-Variant : goal.read-returns-in-Variant
read-returns-in-Variant t c = λ h a v s.
    let is : type_of c.args.ty.now ≡ variant (pieces c.as_slice.result.now) = grind (arith, the_lemmas) in
    subst (λ t. IfOk c.variant.result (λ x. value_of x ≡ capped_value (value (cells_of h) t (bare v)))) (sym is) (c.variant.ensures h a v s)

pub read-returns-in-Fields : goal.read-returns-in-Fields
read-returns-in-Fields t c = λ h a v s.
    let is : type_of c.args.ty.now ≡ fields (pieces c.as_slice-in-Fields.result.now) c.in-Fields.sigil = grind (arith, the_lemmas) in
    subst (λ t. IfOk c.held.result (λ x. value_of x ≡ capped_value (value (cells_of h) t (bare v)))) (sym is) (c.held.ensures h a v s)

-- ---- variants

pub variant-returns-in-Applied : goal.variant-returns-in-Applied
variant-returns-in-Applied t c = λ h a v s.
    applied_told (cells_of h) (pieces c.args.parts.now) c.in-Applied.name c.in-Applied.payload (bare v) (λ y. IfOk c.applied.result (λ x. value_of x ≡ capped_value y)) (c.in-Applied.ensures v s) (c.applied.ensures h a)

pub applied-returns : goal.applied-returns
applied-returns t c = λ h a v s. subst (λ y. IfOk c.chosen.result (λ x. value_of x ≡ values.chosen c.args.name.now y)) (c.in_ok-payload.ensures h a v s) c.chosen.ensures

pub payload_of-returns-then-eq : goal.payload_of-returns-then-eq
payload_of-returns-then-eq t c = λ h a v s.
    let same : bytes_eq c.args.name.now c.part-item.result.name ≡ true = ap (bytes_eq c.args.name.now) (sym c.bytes.ensures) ∙ sym c.eq.ensures ∙ c.if-eq.true in
    subst (λ y. IfOk c.read.result (λ x. value_of x ≡ capped_value y))
    (alternative_here c.args.parts.now c.args.name.now c.loop-part.part-index c.loop-part.invariant c.part-item.result c.loop-part-test.true c.part-item.is same (cells_of h) v) (c.read.ensures h a v s)

pub payload_of-loop-part-preserved : goal.payload_of-loop-part-preserved
payload_of-loop-part-preserved t c =
    let other : bytes_eq c.args.name.now c.part-item.result.name ≡ false = ap (bytes_eq c.args.name.now) (sym c.bytes.ensures) ∙ sym c.eq.ensures ∙ c.if-eq.false in
    alternative_passed c.args.parts.now c.args.name.now c.loop-part.part-index c.loop-part.invariant c.part-item.result c.loop-part-test.true c.part-item.is other

pub payload_of-returns : goal.payload_of-returns
payload_of-returns t c = λ h a v s. alternative_none c.args.parts.now c.args.name.now c.loop-part.part-index c.loop-part.invariant (omega (arith, c.loop-part-test.false)) (cells_of h) v

-- ---- records

pub held-returns-in-R : goal.held-returns-in-R
held-returns-in-R t c = λ h a v s.
    subst (λ y. IfOk c.boxed.result (λ x. value_of x ≡ capped_value y)) (boxed_told (cells_of h) (pieces c.args.parts.now) c.args.sigil c.in-R.is (bare v)) (c.boxed.ensures h a v s)

pub held-returns-in-U : goal.held-returns-in-U
held-returns-in-U t c = λ h a v s.
    subst (λ m. IfOk c.record.result (λ x. value_of x ≡ capped_value (value (cells_of h) (fields (pieces c.args.parts.now) m) (bare v)))) (sym c.in-U.is) (c.record.ensures h a v s)

pub record-returns-in-Tuple : goal.record-returns-in-Tuple
record-returns-in-Tuple t c = λ h a v s.
    tuple_told (cells_of h) (pieces c.args.parts.now) c.in-Tuple.values (bare v) (λ y. IfOk c.tuple.result (λ x. value_of x ≡ capped_value y)) (c.in-Tuple.ensures v s) (c.tuple.ensures h a)

pub record-returns-in-Record : goal.record-returns-in-Record
record-returns-in-Record t c = λ h a v s.
    record_told (cells_of h) (pieces c.args.parts.now) c.in-Record.fields (bare v) (λ y. IfOk c.named.result (λ x. value_of x ≡ capped_value y)) (c.in-Record.ensures v s) (c.named.ensures h a)

pub boxed-returns-in-Address : goal.boxed-returns-in-Address
boxed-returns-in-Address t c = λ h a v s.
    by_address c.args.value.now v s c.in-Address.field-0 c.in-Address.address (c.in-Address.ensures v s) (λ w. IfOk c.slots_by.result (λ x. value_of x ≡ capped_value (boxed_in (cells_of h) (pieces c.args.parts.now) w))) (λ p d. c.slots_by.ensures h a d)

pub slots_by-returns-in-Some : goal.slots_by-returns-in-Some
slots_by-returns-in-Some t c = λ h a d.
    found_told c.in-Some.cell (cells_of h (amount (numeral_of c.args.address.now))) (λ o. IfOk c.slots_in.result (λ x. value_of x ≡ values.parts (capped_values (value_all (cells_of h) (pieces c.args.parts.now) (slot_values o)))))
    (c.in-Some.ensures h a d) (c.slots_in.ensures h a)

pub slots_by-returns-in-None : goal.slots_by-returns-in-None
slots_by-returns-in-None t c = λ h a d. no_fields_are _ _ c.new.ensures (no_cell (cells_of h) (pieces c.args.parts.now) (cells_of h (amount (numeral_of c.args.address.now))) (c.in-None.ensures h a d))

pub slots_in-returns-in-Slots : goal.slots_in-returns-in-Slots
slots_in-returns-in-Slots t c = λ h a w s.
    slots_told c.args.cell.now w (λ w. IfOk c.named.result (λ x. value_of x ≡ values.parts (capped_values (value_all (cells_of h) (pieces c.args.parts.now) (slot_values (Some w)))))) (c.in-Slots.ensures w s) s
    (λ p fs s. c.named.ensures h a fs (c.fields_of.ensures p fs s))

pub slots_in-returns-in-Elements : goal.slots_in-returns-in-Elements
slots_in-returns-in-Elements t c = λ h a w s. no_fields_are _ _ c.new.ensures (other_form (cells_of h) (pieces c.args.parts.now) w c.form.result c.in-Elements.is (c.form.ensures w s))

-- ---- fields

pub field-returns : goal.field-returns
field-returns t c = λ h a v s.
    subst (λ b. IfOk c.read.result (λ x. value_of x ≡ capped_value (cond b values.gone (value (cells_of h) (type_of c.args.part.now.ty) (bare v))))) (sym c.if-part.false) (c.read.ensures h a v s)

pub tuple-returns-in-None : goal.tuple-returns-in-None
tuple-returns-in-None t c = values_over ValuesStand c.args.index.now c.args.addresses.now c.args.parts.now c.args.listed c.loop-part.listed c.loop-part.read c.loop-part.part-index c.loop-part.invariant (value_over c.loop-part.listed c.next.new.self c.in-None.ensures)

pub named-returns-in-None : goal.named-returns-in-None
named-returns-in-None t c = λ h a fs s.
    values_over FieldsOf c.args.index.now c.args.addresses.now c.args.parts.now c.args.fields c.loop-part.fields c.loop-part.read c.loop-part.part-index c.loop-part.invariant (field_over c.loop-part.fields c.next.new.self c.in-None.ensures) h a (values_in fs) (fs, s, refl)

pub tuple-loop-part-preserved : goal.tuple-loop-part-preserved
tuple-loop-part-preserved t c =
    field_passed ValuesStand c.args.index.now c.args.addresses.now c.args.parts.now c.args.listed c.loop-part.listed c.loop-part.read c.loop-part.part-index c.loop-part.invariant
    c.part-item.result c.loop-part-test.true c.part-item.is c.in-Some.value c.next.new.self c.in_ok-field-in-Some.field-0 c.push.new.self
    (value_takes c.loop-part.listed c.next.new.self c.in-Some.value c.in-Some.ensures) c.in_ok-field-in-Some.ensures c.in_ok-push-in-Some.ensures.ok

pub tuple-returns : goal.tuple-returns
tuple-returns t c =
    fields_over ValuesStand c.args.index.now c.args.addresses.now c.args.parts.now c.args.listed c.loop-part.listed c.loop-part.read c.loop-part.part-index c.loop-part.invariant (omega (arith, c.loop-part-test.false))

pub named-loop-part-init : goal.named-loop-part-init
named-loop-part-init t c = going FieldsOf c.args.index.now c.args.addresses.now c.args.parts.now c.args.fields c.new-read.result c.new-read.ensures

pub named-loop-part-preserved : goal.named-loop-part-preserved
named-loop-part-preserved t c =
    field_passed FieldsOf c.args.index.now c.args.addresses.now c.args.parts.now c.args.fields c.loop-part.fields c.loop-part.read c.loop-part.part-index c.loop-part.invariant
    c.part-item.result c.loop-part-test.true c.part-item.is c.in-Some.at.value c.next.new.self c.in_ok-field-in-Some.field-0 c.push.new.self
    (field_takes c.loop-part.fields c.next.new.self c.in-Some.at c.in-Some.ensures) c.in_ok-field-in-Some.ensures c.in_ok-push-in-Some.ensures.ok

pub named-returns : goal.named-returns
named-returns t c = λ h a fs s.
    fields_over FieldsOf c.args.index.now c.args.addresses.now c.args.parts.now c.args.fields c.loop-part.fields c.loop-part.read c.loop-part.part-index c.loop-part.invariant (omega (arith, c.loop-part-test.false)) h a (values_in fs) (fs, s, refl)
