-- What each call leaves of a flat store.
use Rattle.std.proofs.Common.{rules, ◌≡◌, ℕ, ◌+◌, ◌-◌, ◌*◌, ◌/◌, ◌<◌, ◌≤◌, Bool, true, false, cond, nat_lt, List, [], ◌∷◌, ◌++◌, length, get_or, replicate, slice_set, refl, sym, ap, subst, ◌∙◌, arith, ltb-true}
use Rattle.std.specs.FinMap as table
use Rattle.std.specs.FinMap.{FinMap}
use Rattle.std.specs.Option.{is_some}
use Rattle.std.specs.declared.option.Option.{Option}
use Rattle.std.specs.declared.option.Option.TheVariants.{None, Some}
use Rattle.std.specs.Ordering.{nat_cmp}
use Rattle.cg_heap.specs.declared.cell.Cell.{Cell}
use Rattle.cg_heap.specs.declared.cell.Cell.TheVariants.{Slots, Words, Answers}
use Rattle.cg_heap.specs.declared.cell.Form.{Form}
use Rattle.cg_heap.specs.declared.cell.Form.TheVariants as form
use Rattle.cg_heap.specs.declared.cell.Scalar.{Scalar}
use Rattle.cg_heap.specs.Stored.{Stored, asked_of, cell_length, changed, with_element, with_slot, without_answer}
use Rattle.cg_flat.specs.declared.span.Hole.{Hole}
use Rattle.cg_flat.specs.declared.span.Span.{Span}
use Rattle.cg_flat.specs.Flat.{Flat, IsFlat, answers_in, cell_in, cell_of, holes_left, laid, over, room, scalar_words, slots_in, span_words, start_at, start_of, stored_of, written}
use Rattle.cg_flat.proofs.Cells.{answer_put, element_put, slot_put, slots_length, slots_length_by}
use Rattle.cg_flat.proofs.Counts.{within_words}
use Rattle.cg_flat.proofs.Stores.{asked_none, asked_some, changed_not, changed_over, flat_over}
use Rattle.cg_flat.proofs.Wordy.{length_span, span_written, written_grown}

-- ---- one cell's words

tested : (b : Bool) (c : Cell) → is_some (cond b (Some c) None) ≡ true → b ≡ true
tested true c e = refl
tested false c e = absurd (search rules)

opened : (b : Bool) (c d : Cell) → b ≡ true → c ≡ d → cond b (Some c) None ≡ Some d
opened b c d e f = ap (λ t. cond t (Some c) None) e ∙ ap (λ x. Some x) f

pub slot_in_kind : (k : Form) (i : ℕ) (x : Scalar) (ws : List ℕ) → is_some (with_slot i x (cell_in k ws)) ≡ true
    → (2 * i + 1 < length ws) × (with_slot i x (cell_in k ws) ≡ Some (cell_in k (written (2 * i) (scalar_words x) ws)))
slot_in_kind form.Slots i x ws e =
    let test = tested (nat_lt i (length (slots_in ws))) (Slots (slice_set (slots_in ws) i x)) e in
    let low = ltb-true i (length (slots_in ws)) test in
    let both = slots_length_by ws in
    let fits : 2 * i + 1 < length ws = omega arith in
    (fits, opened (nat_lt i (length (slots_in ws))) (Slots (slice_set (slots_in ws) i x)) (Slots (slots_in (written (2 * i) (scalar_words x) ws))) test (ap Slots (sym (slot_put i x ws fits))))
slot_in_kind form.Words i x ws e = absurd (search rules)
slot_in_kind form.Answers i x ws e = absurd (search rules)

pub is_cond : (b : Bool) (c : Cell) → is_some (cond b (Some c) None) ≡ b
is_cond true c = refl
is_cond false c = refl

-- a cell of slots has a slot where half of its words are more
pub slot_fits : (all : List ℕ) (s : Span) (i : ℕ) (x : Scalar) → s.start + s.count ≤ length all → s.form ≡ form.Slots → nat_lt i (s.count / 2) ≡ is_some (with_slot i x (cell_of all s))
slot_fits all s i x within is =
    sym (ap (λ k. is_some (with_slot i x (cell_in k (span_words all s)))) is
    ∙ is_cond (nat_lt i (length (slots_in (span_words all s)))) (Slots (slice_set (slots_in (span_words all s)) i x))
    ∙ ap (nat_lt i) (slots_length (span_words all s) ∙ ap (λ n. n / 2) (length_span all s within)))

unfit_by : (k : Form) (i : ℕ) (x : Scalar) (ws : List ℕ) → (k ≡ form.Slots → ⊥) → false ≡ is_some (with_slot i x (cell_in k ws))
unfit_by form.Slots i x ws other = absurd (other refl)
unfit_by form.Words i x ws other = refl
unfit_by form.Answers i x ws other = refl

-- a cell of another form has none
pub slot_unfit : (all : List ℕ) (s : Span) (i : ℕ) (x : Scalar) → (s.form ≡ form.Slots → ⊥) → false ≡ is_some (with_slot i x (cell_of all s))
slot_unfit all s i x other = unfit_by s.form i x (span_words all s) other

pub element_in_kind : (k : Form) (i n : ℕ) (ws : List ℕ) → is_some (with_element i n (cell_in k ws)) ≡ true → (i < length ws) × (with_element i n (cell_in k ws) ≡ Some (cell_in k (written i (n ∷ []) ws)))
element_in_kind form.Slots i n ws e = absurd (search rules)
element_in_kind form.Words i n ws e =
    let test = tested (nat_lt i (length ws)) (Words (slice_set ws i n)) e in
    let low = ltb-true i (length ws) test in
    (low, opened (nat_lt i (length ws)) (Words (slice_set ws i n)) (Words (written i (n ∷ []) ws)) test (ap Words (sym (element_put i n ws low))))
element_in_kind form.Answers i n ws e = absurd (search rules)

answers_by : (ws : List ℕ) (bs : List Bool) → answers_in ws ≡ bs → is_some (without_answer (Answers bs)) ≡ true
    → (0 < length ws) × (without_answer (Answers bs) ≡ Some (Answers (answers_in (written 0 ((get_or ws 0 0 + 1) ∷ []) ws))))
answers_by ws [] is e = absurd (search rules)
answers_by [] (b ∷ bs) is e = absurd (search rules)
answers_by (t ∷ ws) (b ∷ bs) is e = (omega arith, ap (λ l. Some (Answers l)) (sym (answer_put (t ∷ ws) b bs is)))

pub answer_in_kind : (k : Form) (ws : List ℕ) → is_some (without_answer (cell_in k ws)) ≡ true
    → (0 < length ws) × (without_answer (cell_in k ws) ≡ Some (cell_in k (written 0 ((get_or ws 0 0 + 1) ∷ []) ws)))
answer_in_kind form.Slots ws e = absurd (search rules)
answer_in_kind form.Words ws e = absurd (search rules)
answer_in_kind form.Answers ws e = answers_by ws (answers_in ws) refl e

-- ---- a call that writes words of one cell, or none

no_cell : (o : Option Cell) → is_some o ≡ false → o ≡ None
no_cell None e = refl
no_cell (Some c) e = absurd (search rules)

-- n is a flat store that holds s, and is m
pub record Does (n m : Flat) (s : Stored) : Type 0 where
  pub flat : IsFlat n
  pub stored : stored_of n ≡ s
  pub is : n ≡ m

abbrev pub rewritten : List ℕ → Flat → Flat
rewritten ws f = record { words = ws; spans = f.spans; holes = f.holes; top = f.top }

module _ (g : Cell → Option Cell) (shorter : (c d : Cell) → g c ≡ Some d → cell_length d ≤ cell_length c) (f : Flat) (p : ℕ) (s : Span) (j : ℕ) (vs : List ℕ) (flat : IsFlat f) (here : table.get f.spans p ≡ Some s) where
  abbrev Target : Bool → Flat
  Target b = cond b (over (start_at p f + j) vs f) f

  start : start_at p f ≡ s.start
  start = ap start_of here

  done_true : j + length vs ≤ length (span_words f.words s) → g (cell_of f.words s) ≡ Some (cell_in s.form (written j vs (span_words f.words s))) → Does (over (s.start + j) vs f) (over (start_at p f + j) vs f) (changed g p (stored_of f))
  done_true fits to =
      let within = within_words f p s flat here in
      let long = length_span f.words s within in
      let cell = ap (cell_in s.form) (span_written j vs f.words s (omega arith) within) in
      let stored = changed_over g f p s (s.start + j) vs (cell_in s.form (written j vs (span_words f.words s))) flat here (omega arith) (omega arith) cell to in
      record {
        flat = flat_over g shorter f p (s.start + j) vs flat (omega arith) stored;
        stored = stored;
        is = ap (λ n. over (n + j) vs f) (sym start);
      }

  done_false : is_some (g (cell_of f.words s)) ≡ false → Does f f (changed g p (stored_of f))
  done_false none = record {
    flat = flat;
    stored = changed_not g f p (asked_some g f p s here ∙ no_cell (g (cell_of f.words s)) none);
    is = refl;
  }

  done_by : (b : Bool) (ws : List ℕ) → is_some (g (cell_of f.words s)) ≡ b → ws ≡ cond b (written (s.start + j) vs f.words) f.words
      → (is_some (g (cell_of f.words s)) ≡ true → (j + length vs ≤ length (span_words f.words s)) × (g (cell_of f.words s) ≡ Some (cell_in s.form (written j vs (span_words f.words s)))))
      → Does (rewritten ws f) (Target b) (changed g p (stored_of f))
  done_by true ws e is to = let both = to e in rw is (done_true both.0 both.1)
  done_by false ws e is to = rw is (done_false e)

  pub done : (b : Bool) (ws : List ℕ) → b ≡ is_some (g (cell_of f.words s)) → ws ≡ cond b (written (s.start + j) vs f.words) f.words
      → (is_some (g (cell_of f.words s)) ≡ true → (j + length vs ≤ length (span_words f.words s)) × (g (cell_of f.words s) ≡ Some (cell_in s.form (written j vs (span_words f.words s)))))
      → Does (rewritten ws f) (Target (is_some (asked_of g p (stored_of f)))) (changed g p (stored_of f))
  done b ws e is to =
      let same : b ≡ is_some (asked_of g p (stored_of f)) = e ∙ ap is_some (sym (asked_some g f p s here)) in
      let P : Bool → Type 0 = λ t. Does (rewritten ws f) (Target t) (changed g p (stored_of f)) in
      subst P same (done_by b ws (sym e) is to)

-- there is no such cell
pub done_none : (g : Cell → Option Cell) (f m : Flat) (p : ℕ) → IsFlat f → table.get f.spans p ≡ None → Does f (cond (is_some (asked_of g p (stored_of f))) m f) (changed g p (stored_of f))
done_none g f m p flat missing = record {
  flat = flat;
  stored = changed_not g f p (asked_none g f p missing);
  is = ap (λ o. cond (is_some o) m f) (sym (asked_none g f p missing));
}

-- ---- a cell that was put down

flat_is : (f : Flat) (ws : List ℕ) (m : FinMap nat_cmp Span) (hs : List Hole) (t : ℕ) (n : Flat) → ws ≡ n.words → m ≡ n.spans → hs ≡ n.holes → t ≡ n.top → record { words = ws; spans = m; holes = hs; top = t } ≡ n
flat_is f ws m hs t n one two three four = λ i. record { words = one i; spans = two i; holes = three i; top = four i }

pub laid_is : (f : Flat) (p t : ℕ) (kind : Form) (ws vs : List ℕ) (n start : ℕ) (m : FinMap nat_cmp Span) (hs : List Hole) → n ≡ length ws → start ≡ room n f → start ≤ length f.words
    → vs ≡ written start ws (f.words ++ replicate (start + n - length f.words) 0) → m ≡ table.insert f.spans p (record { form = kind; start = start; count = n }) → hs ≡ holes_left n f.holes
    → record { words = vs; spans = m; holes = hs; top = t } ≡ laid p t kind ws f
laid_is f p t kind ws vs n start m hs count at low words spans holes =
    let same : start ≡ room (length ws) f = at ∙ ap (λ k. room k f) count in
    flat_is f vs m hs t (laid p t kind ws f)
    (words ∙ ap (λ k. written start ws (f.words ++ replicate (start + k - length f.words) 0)) count ∙ written_grown start 0 ws f.words low ∙ ap (λ k. written k ws f.words) same)
    (spans ∙ (λ i. table.insert f.spans p (record { form = kind; start = same i; count = count i })))
    (holes ∙ ap (λ k. holes_left k f.holes) count)
    refl
