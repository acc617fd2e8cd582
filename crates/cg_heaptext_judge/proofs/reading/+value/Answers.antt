use Rattle.std.proofs.Common.{rules, ◌≡◌, true, false, cond, if◌then◌else◌, [], ◌∷◌, Err, map, refl, sym, ap, ◌∙◌, subst, arith}
use Rattle.std.specs.Str.{bytes_eq}
use Rattle.cg_base.specs.Types.{abs, bool, fields, to_taus, type_of, unit, word}
use Rattle.cg_base.specs.declared.ty.Ty.{the_lemmas}
use Rattle.cg_heaptext_def.specs.Footprints.{amounts}
use Rattle.cg_heaptext_def.specs.HeapText.{cells_of}
use Rattle.cg_heaptext_def.specs.Reading.{events, events_applied, events_bare, is_gone, misfit}
use Rattle.cg_heaptext_def.specs.Trees.{bare, first, values_in}
use Rattle.cg_heaptext_judge.proofs.Applying.{applied_found, applied_over, applied_passed}
use Rattle.cg_heaptext_judge.proofs.Entered.{abstract_entered, abstract_failed, boxed_is, record_entered, record_failed, unboxed_is}
use Rattle.cg_heaptext_judge.proofs.Listing.{Answered, field_failed, field_passed, values_over}
use Rattle.cg_heaptext_judge.proofs.Plain.{IsEmpty, applied_told, cell_fails, cell_told, constant_told, empty_fits, record_told, tuple_told, type_fits}
use Rattle.cg_heaptext_judge.proofs.There.{bare_there}
use Rattle.cg_heaptext_judge.specs.Values.{payload_met}
use Rattle.cg_heaptext_judge_notes.specs.Notes.{Notes}
use Rattle.cg_heaptext_judge_notes.specs.declared.fault.JudgeFault.TheVariants.{Misfit}
use Rattle.cg_heaptext_judge_steps.proofs.Noting.{fits_notes}
use Rattle.cg_heaptext_judge_steps.specs.Steps.{Fits, pieces}
use Rattle.cg_heaptext_scalars.proofs.Listing.{FieldsOf, field_over, field_takes, value_over, value_takes}
use Rattle.cg_heaptext_values.specs.Values.{ValuesStand}
use Rattle.cg_heaptext_judge.proofs.reading.+value.Goals as goal

-- ---- by the type

pub judge_value-returns-in-Unit : goal.judge_value-returns-in-Unit
judge_value-returns-in-Unit t c = λ h read v s there.
    let is : type_of c.args.ty.now ≡ unit = grind (arith, the_lemmas) in
    type_fits h c.args.judged.now (type_of c.args.ty.now) unit (first v) (bare v) c.judge_unit.result is (c.judge_unit.ensures (cells_of h) v s)

pub judge_value-returns-in-Bool : goal.judge_value-returns-in-Bool
judge_value-returns-in-Bool t c = λ h read v s there.
    let is : type_of c.args.ty.now ≡ bool = grind (arith, the_lemmas) in
    type_fits h c.args.judged.now (type_of c.args.ty.now) bool (first v) (bare v) c.judge_truth.result is (c.judge_truth.ensures (cells_of h) v s)

pub judge_value-returns-in-Word : goal.judge_value-returns-in-Word
judge_value-returns-in-Word t c = λ h read v s there.
    let is : type_of c.args.ty.now ≡ word c.in-Word.word = grind (arith, the_lemmas) in
    subst (λ u. Notes (amounts h) c.args.judged.now (events (cells_of h) u (first v) (bare v)) c.judge_word.result c.judge_word.new.judged) (sym is) (c.judge_word.ensures (amounts h) (cells_of h) v s)

pub judge_value-returns-then-not-is_boxed : goal.judge_value-returns-then-not-is_boxed
judge_value-returns-then-not-is_boxed t c = λ h read v s there.
    let unboxed = unboxed_is c.in-Abs.sigil (sym c.is_boxed.ensures ∙ c.if-not-is_boxed.true) in
    let is : type_of c.args.ty.now ≡ abs c.in-Abs.name (to_taus (map type_of c.in-Abs.args)) c.in-Abs.sigil = grind (arith, the_lemmas) in
    let empty : IsEmpty (type_of c.args.ty.now) = subst IsEmpty (sym (is ∙ ap (abs c.in-Abs.name (to_taus (map type_of c.in-Abs.args))) unboxed)) tt in
    empty_fits h c.args.judged.now (type_of c.args.ty.now) (first v) (bare v) c.misfit.result empty (c.misfit.ensures v s)

pub judge_value-returns-then-not-is_boxed-2 : goal.judge_value-returns-then-not-is_boxed-2
judge_value-returns-then-not-is_boxed-2 t c = λ h read v s there.
    let unboxed = unboxed_is c.in-Fields.sigil (sym c.is_boxed-in-Fields.ensures ∙ c.if-not-is_boxed-2.true) in
    let is : type_of c.args.ty.now ≡ fields (pieces c.as_slice-then-not-is_boxed-2.result.now) c.in-Fields.sigil = grind (arith, the_lemmas) in
    subst (λ u. Notes (amounts h) c.args.judged.now (events (cells_of h) u (first v) (bare v)) c.judge_record.result c.judge_record.new.judged)
    (sym (is ∙ ap (fields (pieces c.as_slice-then-not-is_boxed-2.result.now)) unboxed)) (c.judge_record.ensures h read v s there)

pub judge_value-returns-in-Var : goal.judge_value-returns-in-Var
judge_value-returns-in-Var t c = λ h read v s there.
    let empty : IsEmpty (type_of c.args.ty.now) = search (rules, the_lemmas) in
    empty_fits h c.args.judged.now (type_of c.args.ty.now) (first v) (bare v) c.misfit-in-Var.result empty (c.misfit-in-Var.ensures v s)

pub judge_value-returns-in_err-cell-in-Abs : goal.judge_value-returns-in_err-cell-in-Abs
judge_value-returns-in_err-cell-in-Abs t c = λ h read v s there.
    let same : c.from_residual.result ≡ Err c.in_err-cell-in-Abs.field-0.0 = grind arith in
    let which = sym c.is_boxed.ensures ∙ c.if-not-is_boxed.false in
    let is : type_of c.args.ty.now ≡ abs c.in-Abs.name (to_taus (map type_of c.in-Abs.args)) c.in-Abs.sigil = grind (arith, the_lemmas) in
    subst (λ r. Notes (amounts h) c.args.judged.now (events (cells_of h) (type_of c.args.ty.now) (first v) (bare v)) r c.mentioned.new.judged) (sym same)
    (abstract_failed h c.args.judged.now c.mentioned.new.judged (type_of c.args.ty.now) (first v) (bare v) c.in-Abs.name (to_taus (map type_of c.in-Abs.args)) c.in-Abs.sigil is
    (boxed_is c.in-Abs.sigil which) c.in_err-cell-in-Abs.field-0.0 (c.in_err-cell-in-Abs.ensures h read v s there))

pub judge_value-returns-in_ok-cell-in-Abs : goal.judge_value-returns-in_ok-cell-in-Abs
judge_value-returns-in_ok-cell-in-Abs t c = λ h read v s there.
    let which = sym c.is_boxed.ensures ∙ c.if-not-is_boxed.false in
    let is : type_of c.args.ty.now ≡ abs c.in-Abs.name (to_taus (map type_of c.in-Abs.args)) c.in-Abs.sigil = grind (arith, the_lemmas) in
    abstract_entered h c.args.judged.now c.mentioned.new.judged (type_of c.args.ty.now) (first v) (bare v) c.in-Abs.name (to_taus (map type_of c.in-Abs.args)) c.in-Abs.sigil is
    (boxed_is c.in-Abs.sigil which) c.judge_library.new.judged c.in_ok-cell-in-Abs.cell c.judge_library.result (c.in_ok-cell-in-Abs.ensures h read v s there) (c.judge_library.ensures (amounts h))

pub judge_value-returns-in_err-cell-in-Fields : goal.judge_value-returns-in_err-cell-in-Fields
judge_value-returns-in_err-cell-in-Fields t c = λ h read v s there.
    let same : c.from_residual-in_err-cell-in-Fields.result ≡ Err c.in_err-cell-in-Fields.field-0.0 = grind arith in
    let which = sym c.is_boxed-in-Fields.ensures ∙ c.if-not-is_boxed-2.false in
    let is : type_of c.args.ty.now ≡ fields (pieces c.in-Fields.parts) c.in-Fields.sigil = grind (arith, the_lemmas) in
    subst (λ r. Notes (amounts h) c.args.judged.now (events (cells_of h) (type_of c.args.ty.now) (first v) (bare v)) r c.mentioned-in-Fields.new.judged) (sym same)
    (record_failed h c.args.judged.now c.mentioned-in-Fields.new.judged (type_of c.args.ty.now) (first v) (bare v) (pieces c.in-Fields.parts) c.in-Fields.sigil is
    (boxed_is c.in-Fields.sigil which) c.in_err-cell-in-Fields.field-0.0 (c.in_err-cell-in-Fields.ensures h read v s there))

pub judge_value-returns-in_ok-cell-in-Fields : goal.judge_value-returns-in_ok-cell-in-Fields
judge_value-returns-in_ok-cell-in-Fields t c = λ h read v s there.
    let which = sym c.is_boxed-in-Fields.ensures ∙ c.if-not-is_boxed-2.false in
    let is : type_of c.args.ty.now ≡ fields (pieces c.as_slice-in-Fields.result.now) c.in-Fields.sigil = grind (arith, the_lemmas) in
    record_entered h c.args.judged.now c.mentioned-in-Fields.new.judged (type_of c.args.ty.now) (first v) (bare v) (pieces c.as_slice-in-Fields.result.now) c.in-Fields.sigil is
    (boxed_is c.in-Fields.sigil which) c.judge_slots.new.judged c.in_ok-cell-in-Fields.cell c.judge_slots.result (c.in_ok-cell-in-Fields.ensures h read v s there) (c.judge_slots.ensures h read)

-- ---- variants

pub judge_variant-returns-in-Constant : goal.judge_variant-returns-in-Constant
judge_variant-returns-in-Constant t c = λ h read v s there.
    let at = c.place.ensures v s in
    constant_told h c.args.judged.now (pieces c.args.parts.now) (first v) c.in-Constant.name (bare v) c.judge_constant.result (c.in-Constant.ensures v s)
    (subst (λ p. Fits (events_bare (cells_of h) (pieces c.args.parts.now) p c.in-Constant.name.now) c.judge_constant.result) at (c.judge_constant.ensures (cells_of h)))

pub judge_variant-returns-in-Applied : goal.judge_variant-returns-in-Applied
judge_variant-returns-in-Applied t c = λ h read v s there.
    let at = c.place-in-Applied.ensures v s in
    applied_told h c.args.judged.now c.judge_applied.new.judged (pieces c.args.parts.now) (first v) c.in-Applied.name c.in-Applied.payload (bare v) c.judge_applied.result (c.in-Applied.ensures v s) there
    (λ u stands known. subst (λ p. Notes (amounts h) c.args.judged.now (events_applied (cells_of h) (pieces c.args.parts.now) p c.in-Applied.name.now u) c.judge_applied.result c.judge_applied.new.judged) at
    (c.judge_applied.ensures h read u stands known))

pub judge_applied-returns-then-eq : goal.judge_applied-returns-then-eq
judge_applied-returns-then-eq t c = λ h read v s there.
    let e : bytes_eq c.args.name.now c.part-item.result.name ≡ true = grind arith in
    subst (λ es. Notes (amounts h) c.args.judged.now es c.judge_payload.result c.judge_payload.new.judged)
    (sym (applied_found c.args.place c.args.name.now c.args.parts.now c.loop-part.part-index c.loop-part.invariant.left c.part-item.result c.loop-part-test.true c.part-item.is e h v))
    (subst (λ old. Notes (amounts h) old (payload_met h c.part-item.result c.args.place v) c.judge_payload.result c.judge_payload.new.judged) c.loop-part.invariant.same (c.judge_payload.ensures h read v s there))

pub judge_applied-loop-part-preserved : goal.judge_applied-loop-part-preserved
judge_applied-loop-part-preserved t c =
    let e : bytes_eq c.args.name.now c.part-item.result.name ≡ false = grind arith in
    record { same = c.loop-part.invariant.same; left = applied_passed c.args.place c.args.name.now c.args.parts.now c.loop-part.part-index c.loop-part.invariant.left c.part-item.result c.loop-part-test.true c.part-item.is e }

pub judge_applied-returns : goal.judge_applied-returns
judge_applied-returns t c = λ h read v s there.
    subst (λ es. Notes (amounts h) c.args.judged.now es (Err (Misfit c.args.place)) c.loop-part.judged)
    (sym (applied_over c.args.place c.args.name.now c.args.parts.now c.loop-part.part-index c.loop-part.invariant.left (omega (arith, c.loop-part-test.false)) h v)) (λ s noted. refl)

pub judge_payload-returns : goal.judge_payload-returns
judge_payload-returns t c = λ h read v s there.
    subst (λ b. Notes (amounts h) c.args.judged.now (if b then misfit c.args.place ∷ [] else events (cells_of h) (type_of c.args.part.now.ty) (first v) (bare v)) c.judge_value.result c.judge_value.new.judged)
    (sym c.if-part.false) (c.judge_value.ensures h read v s (bare_there h v there))

-- ---- records and cells

pub judge_record-returns-in-Tuple : goal.judge_record-returns-in-Tuple
judge_record-returns-in-Tuple t c = λ h read v s there.
    tuple_told h c.args.judged.now c.judge_values.new.judged (pieces c.args.parts.now) (first v) c.in-Tuple.values (bare v) c.judge_values.result (c.in-Tuple.ensures v s)
    (sym (c.fits_record.ensures v s) ∙ c.if-not-fits_record.false) there (c.judge_values.ensures h read)

pub judge_record-returns-in-Record : goal.judge_record-returns-in-Record
judge_record-returns-in-Record t c = λ h read v s there.
    record_told h c.args.judged.now c.judge_fields.new.judged (pieces c.args.parts.now) (first v) c.in-Record.fields (bare v) c.judge_fields.result (c.in-Record.ensures v s)
    (sym (c.fits_record.ensures v s) ∙ c.if-not-fits_record.false) there (c.judge_fields.ensures h read)

pub judge_slots-returns-then-not-is_record : goal.judge_slots-returns-then-not-is_record
judge_slots-returns-then-not-is_record t c = λ h read q cell there s.
    cell_fails h c.args.judged.now (pieces c.args.parts.now) cell c.misfit_cell.result (sym (c.is_record.ensures cell s) ∙ c.if-not-is_record.true) (c.misfit_cell.ensures cell s)

pub judge_slots-returns : goal.judge_slots-returns
judge_slots-returns t c = λ h read q cell there s.
    cell_told c.args.source.now h c.args.judged.now c.judge_fields.new.judged (pieces c.args.parts.now) c.args.cell.now c.fields_of.result c.judge_fields.result read c.fields_of.ensures (c.judge_fields.ensures h read) q cell there s
    (sym (c.is_record.ensures cell s) ∙ c.if-not-is_record.false)

-- ---- fields

pub judge_part-returns-then-part : goal.judge_part-returns-then-part
judge_part-returns-then-part t c = λ h read v s there.
    subst (λ b. Notes (amounts h) c.args.judged.now (cond b (if is_gone (bare v) then [] else misfit (first v) ∷ []) (events (cells_of h) (type_of c.args.part.now.ty) (first v) (bare v))) c.judge_gone.result c.args.judged.now)
    (sym c.if-part.true) (fits_notes (amounts h) c.args.judged.now (if is_gone (bare v) then [] else misfit (first v) ∷ []) c.judge_gone.result (c.judge_gone.ensures v s))

pub judge_part-returns : goal.judge_part-returns
judge_part-returns t c = λ h read v s there.
    subst (λ b. Notes (amounts h) c.args.judged.now (cond b (if is_gone (bare v) then [] else misfit (first v) ∷ []) (events (cells_of h) (type_of c.args.part.now.ty) (first v) (bare v))) c.judge_value.result c.judge_value.new.judged)
    (sym c.if-part.false) (c.judge_value.ensures h read v s (bare_there h v there))

pub judge_values-returns-in_err-judge_part-in-Some : goal.judge_values-returns-in_err-judge_part-in-Some
judge_values-returns-in_err-judge_part-in-Some t c =
    let same : c.from_residual.result ≡ Err c.in_err-judge_part-in-Some.field-0.0 = grind arith in
    subst (λ r. Answered ValuesStand c.args.source.now c.args.parts.now c.args.values c.args.judged.now r c.judge_part.new.judged) (sym same)
    (field_failed ValuesStand c.args.source.now c.args.parts.now c.args.values c.loop-part.values c.args.judged.now c.loop-part.judged c.loop-part.part-index c.loop-part.invariant
    c.part-item.result c.loop-part-test.true c.part-item.is c.in-Some.value c.next.new.self c.judge_part.new.judged (value_takes c.loop-part.values c.next.new.self c.in-Some.value c.in-Some.ensures)
    c.in_err-judge_part-in-Some.field-0.0 c.in_err-judge_part-in-Some.ensures)

pub judge_values-returns-in-None : goal.judge_values-returns-in-None
judge_values-returns-in-None t c =
    values_over ValuesStand c.args.source.now c.args.parts.now c.args.values c.loop-part.values c.args.judged.now c.loop-part.judged c.loop-part.part-index c.loop-part.invariant
    (value_over c.loop-part.values c.next.new.self c.in-None.ensures)

pub judge_values-loop-part-preserved : goal.judge_values-loop-part-preserved
judge_values-loop-part-preserved t c =
    field_passed ValuesStand c.args.source.now c.args.parts.now c.args.values c.loop-part.values c.args.judged.now c.loop-part.judged c.loop-part.part-index c.loop-part.invariant
    c.part-item.result c.loop-part-test.true c.part-item.is c.in-Some.value c.next.new.self c.judge_part.new.judged (value_takes c.loop-part.values c.next.new.self c.in-Some.value c.in-Some.ensures)
    c.in_ok-judge_part-in-Some.ensures

pub judge_fields-returns-in_err-judge_part-in-Some : goal.judge_fields-returns-in_err-judge_part-in-Some
judge_fields-returns-in_err-judge_part-in-Some t c = λ h read fs s.
    let same : c.from_residual.result ≡ Err c.in_err-judge_part-in-Some.field-0.0 = grind arith in
    subst (λ r. Answered FieldsOf c.args.source.now c.args.parts.now c.args.fields c.args.judged.now r c.judge_part.new.judged) (sym same)
    (field_failed FieldsOf c.args.source.now c.args.parts.now c.args.fields c.loop-part.fields c.args.judged.now c.loop-part.judged c.loop-part.part-index c.loop-part.invariant
    c.part-item.result c.loop-part-test.true c.part-item.is c.in-Some.field.value c.next.new.self c.judge_part.new.judged (field_takes c.loop-part.fields c.next.new.self c.in-Some.field c.in-Some.ensures)
    c.in_err-judge_part-in-Some.field-0.0 c.in_err-judge_part-in-Some.ensures) h read (values_in fs) (fs, s, refl)

pub judge_fields-returns-in-None : goal.judge_fields-returns-in-None
judge_fields-returns-in-None t c = λ h read fs s.
    values_over FieldsOf c.args.source.now c.args.parts.now c.args.fields c.loop-part.fields c.args.judged.now c.loop-part.judged c.loop-part.part-index c.loop-part.invariant
    (field_over c.loop-part.fields c.next.new.self c.in-None.ensures) h read (values_in fs) (fs, s, refl)

pub judge_fields-loop-part-preserved : goal.judge_fields-loop-part-preserved
judge_fields-loop-part-preserved t c =
    field_passed FieldsOf c.args.source.now c.args.parts.now c.args.fields c.loop-part.fields c.args.judged.now c.loop-part.judged c.loop-part.part-index c.loop-part.invariant
    c.part-item.result c.loop-part-test.true c.part-item.is c.in-Some.field.value c.next.new.self c.judge_part.new.judged (field_takes c.loop-part.fields c.next.new.self c.in-Some.field c.in-Some.ensures)
    c.in_ok-judge_part-in-Some.ensures
