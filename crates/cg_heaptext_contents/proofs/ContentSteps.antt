-- What was read of a cell is what it holds.
use Rattle.std.proofs.Common.{◌≡◌, ℕ, Bool, true, false, nat_lt, List, [], length, map, refl, sym, ap, ◌∙◌, subst}
use Rattle.std.proofs.lemmas.List.{length-map}
use Rattle.std.specs.Prelude.{slice_get, Option, Some, None}
use Rattle.cg_base.specs.declared.place.Place.{Place}
use Rattle.cg_base.specs.Types.{Tau, Parts, var, seen, unit, word, bool, arrow, abs, variant, fields}
use Rattle.cg_heap.specs.declared.cell.Cell.TheVariants as held
use Rattle.cg_heap.specs.declared.cell.Scalar.{Scalar}
use Rattle.cg_heaptext_cells.specs.Cells.{IsAbove, form_of}
use Rattle.cg_heaptext_cells.specs.declared.cell.CellForm.TheVariants as form
use Rattle.cg_heaptext_cells.specs.declared.numbers.Elements.{Elements}
use Rattle.cg_heaptext_cells.specs.declared.slots.Loose.{Loose}
use Rattle.cg_heaptext_contents.specs.Contents.{AreAnswers, AreSlots, IsArray, IsContent, IsLoose, IsNoRecordAt, IsRecord}
use Rattle.cg_heaptext_contents.specs.declared.content.Content.{Content}
use Rattle.cg_heaptext_contents.proofs.Small.{kept, numbers_kept}
use Rattle.cg_heaptext_def.specs.HeapText.{numerals_in}
use Rattle.cg_heaptext_def.specs.Reading.{loose_fields, scalars_all, slots_at}
use Rattle.cg_heaptext_def.specs.Small.{are_small, capped, capped_number, most_word}
use Rattle.cg_heaptext_def.specs.Trees.{Numeral, amount, Fields, Cell, slots, elements, answers, values_in}
use Rattle.cg_heaptext_entries.specs.Index.{CellStands}
use Rattle.cg_heaptext_lexer.specs.Next.{Cursor}
use Rattle.cg_heaptext_places.specs.Noted.{IsLeast}
use Rattle.cg_value.specs.Fits.{most_elements}

some_is_none : {A : Type 0} (x : A) → Some x ≡ None → ⊥
some_is_none x e = cc

-- ---- slots that are read at a record type

pub typed : (at : Cursor) (t : Tau) (ps : Parts) (us : List Scalar) (x : Content) → x.cell ≡ held.Slots us → x.many ≡ false
    → ((p : Place) (fs : Fields) → CellStands at (slots p fs) → us ≡ map capped (scalars_all ps (values_in fs)))
    → (c : Cell) → CellStands at c → AreSlots c → IsRecord t ps → IsContent (Some t) c x
typed at t ps us x is many read (slots p fs) stands a r = record {
  cell = λ small.
      let all : slots_at (Some t) fs ≡ scalars_all ps (values_in fs) = ap (λ s. slots_at (Some s) fs) r.1 in
      let fits : are_small (scalars_all ps (values_in fs)) ≡ true = sym (ap are_small all) ∙ small in
      is ∙ ap held.Slots (read p fs stands ∙ kept (scalars_all ps (values_in fs)) fits ∙ sym all);
  over = λ e. absurd (some_is_none t e);
  many = many;
}
typed at t ps us x is many read (elements p ns) stands a r = absurd a
typed at t ps us x is many read (answers p bs) stands a r = absurd a

-- ---- slots that no record type tells

loose_at : (t : Option Tau) (fs : Fields) → IsNoRecordAt t → slots_at t fs ≡ loose_fields fs
loose_at None fs n = refl
loose_at (Some (var i)) fs n = refl
loose_at (Some (seen i)) fs n = refl
loose_at (Some unit) fs n = refl
loose_at (Some (word w)) fs n = refl
loose_at (Some bool) fs n = refl
loose_at (Some (arrow a b)) fs n = refl
loose_at (Some (abs name ts s)) fs n = refl
loose_at (Some (variant ps)) fs n = refl
loose_at (Some (fields ps s)) fs n = absurd n

pub loose : (at : Cursor) (r : Loose) (x : Content) → x.cell ≡ held.Slots r.slots → x.over ≡ r.over → x.many ≡ false
    → ((p : Place) (fs : Fields) → CellStands at (slots p fs) → IsLeast (IsAbove most_word (numerals_in fs)) r.over × (r.slots ≡ map capped (loose_fields fs)))
    → (c : Cell) → CellStands at c → AreSlots c → IsLoose c x
loose at r x is over many read (slots p fs) stands a t n =
    let g = read p fs stands in
    let all = loose_at t fs n in
    record {
      cell = λ small. is ∙ ap held.Slots (g.1 ∙ kept (loose_fields fs) (sym (ap are_small all) ∙ small) ∙ sym all);
      over = λ e. subst (IsLeast (IsAbove most_word (numerals_in fs))) (sym over) g.0;
      many = many;
    }
loose at r x is over many read (elements p ns) stands a t n = absurd a
loose at r x is over many read (answers p bs) stands a t n = absurd a

-- ---- arrays, and answers

pub array : (at : Cursor) (r : Elements) (x : Content) → x.cell ≡ held.Words r.numbers → x.over ≡ r.over → x.many ≡ nat_lt most_elements (length r.numbers)
    → ((p : Place) (ns : List Numeral) → CellStands at (elements p ns) → IsLeast (IsAbove most_word ns) r.over × (r.numbers ≡ map capped_number (map amount ns)))
    → (c : Cell) (t : Option Tau) → CellStands at c → IsArray c → IsContent t c x
array at r x is over many read (elements p ns) t stands a =
    let g = read p ns stands in
    record {
      cell = λ small. is ∙ ap held.Words (g.1 ∙ numbers_kept (map amount ns) small);
      over = λ e. subst (IsLeast (IsAbove most_word ns)) (sym over) g.0;
      many = many ∙ ap (λ n. nat_lt most_elements n) (ap length g.1 ∙ length-map (map amount ns) capped_number ∙ length-map ns amount);
    }
array at r x is over many read (slots p fs) t stands a = absurd a
array at r x is over many read (answers p bs) t stands a = absurd a

none_there : (i : ℕ) (n : Numeral) → slice_get [] i ≡ Some n → ⊥
none_there i n e = cc

pub allocator : (at : Cursor) (bs : List Bool) (x : Content) → x.cell ≡ held.Answers bs → x.over ≡ None → x.many ≡ false
    → ((p : Place) (cs : List Bool) → CellStands at (answers p cs) → bs ≡ cs) → (c : Cell) (t : Option Tau) → CellStands at c → AreAnswers c → IsContent t c x
allocator at bs x is over many read (answers p cs) t stands a = record {
  cell = λ small. is ∙ ap held.Answers (read p cs stands);
  over = λ e. subst (IsLeast (IsAbove most_word [])) (sym over) (λ place above. none_there above.0 above.1 above.2);
  many = many;
}
allocator at bs x is over many read (slots p fs) t stands a = absurd a
allocator at bs x is over many read (elements p ns) t stands a = absurd a

-- ---- which form a cell has

pub are_slots : (c : Cell) → form.Slots ≡ form_of c → AreSlots c
are_slots (slots p fs) e = tt
are_slots (elements p ns) e = absurd (cc)
are_slots (answers p bs) e = absurd (cc)

pub is_array : (c : Cell) → form.Elements ≡ form_of c → IsArray c
is_array (slots p fs) e = absurd (cc)
is_array (elements p ns) e = tt
is_array (answers p bs) e = absurd (cc)

pub are_answers : (c : Cell) → form.Answers ≡ form_of c → AreAnswers c
are_answers (slots p fs) e = absurd (cc)
are_answers (elements p ns) e = absurd (cc)
are_answers (answers p bs) e = tt
