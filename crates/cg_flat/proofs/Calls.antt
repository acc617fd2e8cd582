-- What the calls of a flat store that write words of one cell leave.
use Rattle.std.proofs.Common.{◌≡◌, ℕ, ◌+◌, ◌*◌, ◌<◌, Bool, cond, List, [], ◌∷◌, length, get_or, slice_get, refl, sym, ap, ◌∙◌, arith}
use Rattle.std.proofs.lemmas.List.{get_or-take, get_or-drop}
use Rattle.std.specs.FinMap as table
use Rattle.std.specs.Option.{is_some}
use Rattle.std.specs.declared.option.Option.{Option}
use Rattle.std.specs.declared.option.Option.TheVariants.{Some}
use Rattle.cg_heap.specs.declared.cell.Cell.{Cell}
use Rattle.cg_heap.specs.declared.cell.Cell.TheVariants.{Answers}
use Rattle.cg_heap.specs.declared.cell.Form.{Form}
use Rattle.cg_heap.specs.declared.cell.Form.TheVariants as form
use Rattle.cg_heap.specs.declared.cell.Scalar.{Scalar}
use Rattle.cg_heap.specs.Stored.{answer_of, asked_of, changed, with_element, with_slot, without_answer}
use Rattle.cg_heap.proofs.Shorter.{answer_shorter, element_shorter, field_shorter}
use Rattle.cg_flat.specs.declared.span.Span.{Span}
use Rattle.cg_flat.specs.Flat.{Flat, IsFlat, answer_taken, answers_in, cell_in, cell_of, element_written, over, scalar_words, slot_written, span_words, start_at, start_of, stored_of, written}
use Rattle.cg_flat.proofs.Cells.{scalar_long}
use Rattle.cg_flat.proofs.Counts.{within_words}
use Rattle.cg_flat.proofs.Steps.{Does, answer_in_kind, done, element_in_kind, rewritten, slot_in_kind}
use Rattle.cg_flat.proofs.Wordy.{length_span}

-- a slot was written, or there is none
pub slot_done : (f : Flat) (p i : ℕ) (x : Scalar) (s : Span) (b : Bool) (ws : List ℕ) → IsFlat f → table.get f.spans p ≡ Some s → b ≡ is_some (with_slot i x (cell_of f.words s))
    → ws ≡ cond b (written (s.start + 2 * i) (scalar_words x) f.words) f.words → Does (rewritten ws f) (slot_written p i x f) (changed (with_slot i x) p (stored_of f))
slot_done f p i x s b ws flat here e is =
    done (with_slot i x) (field_shorter i x) f p s (2 * i) (scalar_words x) flat here b ws e is (λ t.
    let two = scalar_long x in
    let both = slot_in_kind s.form i x (span_words f.words s) t in
    let low : 2 * i + 1 < length (span_words f.words s) = both.0 in
    (omega arith, both.1))

-- an element was written, or there is none
pub element_done : (f : Flat) (p i n : ℕ) (s : Span) (b : Bool) (ws : List ℕ) → IsFlat f → table.get f.spans p ≡ Some s → b ≡ is_some (with_element i n (cell_of f.words s))
    → ws ≡ cond b (written (s.start + i) (n ∷ []) f.words) f.words → Does (rewritten ws f) (element_written p i n f) (changed (with_element i n) p (stored_of f))
element_done f p i n s b ws flat here e is =
    done (with_element i n) (element_shorter i n) f p s i (n ∷ []) flat here b ws e is (λ t.
    let both = element_in_kind s.form i n (span_words f.words s) t in
    let low : i < length (span_words f.words s) = both.0 in
    (omega arith, both.1))

-- ---- an answer was taken

start_again : (f : Flat) (n : ℕ) (vs : List ℕ) → over (n + 0) vs f ≡ over n vs f
start_again f n vs = let same : n + 0 ≡ n = omega arith in ap (λ k. over k vs f) same

first_word : (all : List ℕ) (s : Span) → 0 < s.count → get_or (span_words all s) 0 0 ≡ get_or all s.start 0
first_word all s some = let same : s.start + 0 ≡ s.start = omega arith in get_or-take s.count _ 0 0 some ∙ get_or-drop s.start all 0 0 ∙ ap (λ k. get_or all k 0) same

abbrev Raised : Flat → ℕ → List ℕ
Raised f n = (get_or f.words n 0 + 1) ∷ []

taken_is : (f : Flat) (p : ℕ) (s : Span) (o : Option Cell) → start_at p f ≡ s.start
    → cond (is_some o) (over (start_at p f + 0) (Raised f s.start) f) f ≡ cond (is_some o) (over (start_at p f) (Raised f (start_at p f)) f) f
taken_is f p s o start = ap (λ n. cond (is_some o) n f) (start_again f (start_at p f) (Raised f s.start) ∙ ap (λ n. over (start_at p f) (Raised f n) f) (sym start))

-- an answer was taken, or none is left
pub answer_done : (f : Flat) (p : ℕ) (s : Span) (b : Bool) (ws : List ℕ) → IsFlat f → table.get f.spans p ≡ Some s → b ≡ is_some (without_answer (cell_of f.words s))
    → ws ≡ cond b (written s.start ((get_or f.words s.start 0 + 1) ∷ []) f.words) f.words → Does (rewritten ws f) (answer_taken p f) (changed without_answer p (stored_of f))
answer_done f p s b ws flat here e is =
    let within = within_words f p s flat here in
    let long = length_span f.words s within in
    let start : start_at p f ≡ s.start = ap (λ o. start_of o) here in
    let same : s.start ≡ s.start + 0 = omega arith in
    let does = done without_answer answer_shorter f p s 0 (Raised f s.start) flat here b ws e (is ∙ ap (λ n. cond b (written n (Raised f s.start) f.words) f.words) same) (λ t.
    let both = answer_in_kind s.form (span_words f.words s) t in
    let some : 0 < length (span_words f.words s) = both.0 in
    let word = first_word f.words s (omega arith) in
    (omega arith, both.1 ∙ ap (λ n. Some (cell_in s.form (written 0 ((n + 1) ∷ []) (span_words f.words s)))) word)) in
    record { flat = does.flat; stored = does.stored; is = does.is ∙ taken_is f p s (asked_of without_answer p (stored_of f)) start }

-- an answer is left exactly where the first can be taken
first_left : (bs : List Bool) → is_some (slice_get bs 0) ≡ is_some (without_answer (Answers bs))
first_left [] = refl
first_left (b ∷ bs) = refl

pub same_test : (k : Form) (ws : List ℕ) → is_some (answer_of 0 (cell_in k ws)) ≡ is_some (without_answer (cell_in k ws))
same_test form.Slots ws = refl
same_test form.Words ws = refl
same_test form.Answers ws = first_left (answers_in ws)
