-- What words stand for, once some were written, and the words of a cell.
use Rattle.std.proofs.Common.{rules, zero, suc, ◌≡◌, ℕ, ◌+◌, ◌*◌, ◌/◌, ◌<◌, ◌≤◌, Bool, true, false, nat_eq, List, [], ◌∷◌, ◌++◌, length, map, take, drop, get_or, replicate, slice_get, slice_set, refl, sym, ap, ◌∙◌, arith}
use Rattle.std.proofs.Math.Seq.{drop-cons}
use Rattle.std.proofs.lemmas.List.{append_assoc, length-append, length-drop, length-map, length-replicate, set_split}
use Rattle.std.specs.declared.option.Option.TheVariants.{None, Some}
use Rattle.cg_heap.specs.declared.cell.Cell.{Cell}
use Rattle.cg_heap.specs.declared.cell.Cell.TheVariants.{Slots, Words, Answers}
use Rattle.cg_heap.specs.declared.cell.Form.{Form}
use Rattle.cg_heap.specs.declared.cell.Form.TheVariants as form
use Rattle.cg_heap.specs.declared.cell.Fresh.{Fresh}
use Rattle.cg_heap.specs.declared.cell.Fresh.TheVariants as fresh
use Rattle.cg_heap.specs.declared.cell.Scalar.{Scalar}
use Rattle.cg_heap.specs.declared.cell.Scalar.TheVariants.{Unset, Word, Address}
use Rattle.cg_heap.specs.Stored.{form_of, fresh_cell}
use Rattle.cg_flat.specs.Flat.{answer_word, answers_in, cell_in, cell_words, scalar_in, scalar_words, slot_words, slots_in, written}

-- ---- what a cell's words stand for is the cell

scalar_back : (x : Scalar) (ws : List ℕ) → slots_in (scalar_words x ++ ws) ≡ x ∷ slots_in ws
scalar_back Unset ws = refl
scalar_back (Word n) ws = refl
scalar_back (Address p) ws = refl

slots_back : (ss : List Scalar) → slots_in (slot_words ss) ≡ ss
slots_back [] = refl
slots_back (s ∷ ss) = scalar_back s (slot_words ss) ∙ ap (λ l. s ∷ l) (slots_back ss)

answer_back : (b : Bool) → nat_eq (answer_word b) 1 ≡ b
answer_back true = refl
answer_back false = refl

answers_back : (bs : List Bool) → map (λ w. nat_eq w 1) (map answer_word bs) ≡ bs
answers_back [] = refl
answers_back (b ∷ bs) = ap (λ l. nat_eq (answer_word b) 1 ∷ l) (answers_back bs) ∙ ap (λ c. c ∷ bs) (answer_back b)

pub cell_back : (c : Cell) → cell_in (form_of c) (cell_words c) ≡ c
cell_back (Slots ss) = ap Slots (slots_back ss)
cell_back (Words ns) = refl
cell_back (Answers bs) = ap Answers (answers_back bs)

-- ---- how many words a cell has

pub scalar_long : (x : Scalar) → length (scalar_words x) ≡ 2
scalar_long Unset = refl
scalar_long (Word n) = refl
scalar_long (Address p) = refl

pub slots_long : (ss : List Scalar) → length (slot_words ss) ≡ 2 * length ss
slots_long [] = refl
slots_long (s ∷ ss) =
    let both = length-append (scalar_words s) (slot_words ss) in
    let one = scalar_long s in
    let rest = slots_long ss in
    omega arith

pub answers_long : (bs : List Bool) → length (cell_words (Answers bs)) ≡ length bs + 1
answers_long bs = let same = length-map bs answer_word in omega arith

-- the words of a cell that is made: all 0
unset_words : (n : ℕ) → slot_words (replicate n Unset) ≡ replicate (2 * n) 0
unset_words zero = refl
unset_words (suc n) = let two : 2 * suc n ≡ suc (suc (2 * n)) = omega arith in ap (λ l. 0 ∷ 0 ∷ l) (unset_words n) ∙ ap (λ k. replicate k 0) (sym two)

pub fresh_words : (f : Fresh) (n : ℕ) → n ≡ length (cell_words (fresh_cell f)) → replicate n 0 ≡ cell_words (fresh_cell f)
fresh_words (fresh.Slots k) n e =
    let long = slots_long (replicate k Unset) in
    let count = length-replicate k Unset in
    let same : n ≡ 2 * k = omega arith in
    ap (λ m. replicate m 0) same ∙ sym (unset_words k)
fresh_words (fresh.Words k) n e = ap (λ m. replicate m 0) (e ∙ length-replicate k 0)

-- ---- slots in words

pub slots_length_by : (ws : List ℕ) → (2 * length (slots_in ws) ≤ length ws) × (length ws < 2 * length (slots_in ws) + 2)
slots_length_by [] = (omega arith, omega arith)
slots_length_by (w ∷ []) = (omega arith, omega arith)
slots_length_by (k ∷ n ∷ ws) = let rest = slots_length_by ws in (omega arith, omega arith)

pub slots_length : (ws : List ℕ) → length (slots_in ws) ≡ length ws / 2
slots_length ws = let both = slots_length_by ws in omega arith

pub slot_none : (ws : List ℕ) (i : ℕ) → length ws ≤ 2 * i + 1 → slice_get (slots_in ws) i ≡ None
slot_none [] i few = refl
slot_none (w ∷ []) i few = refl
slot_none (k ∷ n ∷ ws) zero few = absurd (omega arith)
slot_none (k ∷ n ∷ ws) (suc i) few = slot_none ws i (omega arith)

pub slot_some : (ws : List ℕ) (i : ℕ) → 2 * i + 1 < length ws → slice_get (slots_in ws) i ≡ Some (scalar_in (get_or ws (2 * i) 0) (get_or ws (2 * i + 1) 0))
slot_some [] i low = absurd (omega arith)
slot_some (w ∷ []) i low = absurd (omega arith)
slot_some (k ∷ n ∷ ws) zero low = refl
slot_some (k ∷ n ∷ ws) (suc i) low =
    let one : 2 * suc i ≡ suc (suc (2 * i)) = omega arith in
    let two : 2 * suc i + 1 ≡ suc (suc (2 * i + 1)) = omega arith in
    slot_some ws i (omega arith)
    ∙ sym (ap (λ (m : ℕ). Some (scalar_in (get_or (k ∷ n ∷ ws) m 0) (get_or (k ∷ n ∷ ws) (2 * suc i + 1) 0))) one
    ∙ ap (λ (m : ℕ). Some (scalar_in (get_or (k ∷ n ∷ ws) (suc (suc (2 * i))) 0) (get_or (k ∷ n ∷ ws) m 0))) two)

-- ---- words written in a cell's

written_further : (m w : ℕ) (vs ws : List ℕ) → written (suc m) vs (w ∷ ws) ≡ w ∷ written m vs ws
written_further m w vs ws = let same : suc m + length vs ≡ suc (m + length vs) = omega arith in ap (λ k. w ∷ (take m ws ++ (vs ++ drop k (w ∷ ws)))) same

slot_over : (x : Scalar) (k n : ℕ) (ws : List ℕ) → slots_in (written 0 (scalar_words x) (k ∷ n ∷ ws)) ≡ x ∷ slots_in ws
slot_over Unset k n ws = refl
slot_over (Word m) k n ws = refl
slot_over (Address p) k n ws = refl

pub slot_put : (i : ℕ) (x : Scalar) (ws : List ℕ) → 2 * i + 1 < length ws → slots_in (written (2 * i) (scalar_words x) ws) ≡ slice_set (slots_in ws) i x
slot_put i x [] low = absurd (omega arith)
slot_put i x (w ∷ []) low = absurd (omega arith)
slot_put zero x (k ∷ n ∷ ws) low = slot_over x k n ws
slot_put (suc i) x (k ∷ n ∷ ws) low =
    let two : 2 * suc i ≡ suc (suc (2 * i)) = omega arith in
    ap (λ m. slots_in (written m (scalar_words x) (k ∷ n ∷ ws))) two
    ∙ ap slots_in (written_further (suc (2 * i)) k (scalar_words x) (n ∷ ws) ∙ ap (λ l. k ∷ l) (written_further (2 * i) n (scalar_words x) ws))
    ∙ ap (λ l. scalar_in k n ∷ l) (slot_put i x ws (omega arith))

pub element_put : (i n : ℕ) (ws : List ℕ) → i < length ws → written i (n ∷ []) ws ≡ slice_set ws i n
element_put i n ws low = let same : i + 1 ≡ suc i = omega arith in ap (λ k. take i ws ++ n ∷ drop k ws) same ∙ sym (set_split ws i n low)

-- ---- answers in words

-- an answer is left only where fewer were taken than there are
left_of : (t : ℕ) (ws : List ℕ) (b : Bool) (bs : List Bool) → drop t (map (λ w. nat_eq w 1) ws) ≡ b ∷ bs → t < length ws
left_of t ws b bs e =
    let rest = length-drop t (map (λ w. nat_eq w 1) ws) in
    let same = length-map ws (λ w. nat_eq w 1) in
    let count : length (drop t (map (λ w. nat_eq w 1) ws)) ≡ suc (length bs) = ap length e in
    omega arith

rest_of : (b c : Bool) (bs cs : List Bool) → b ∷ bs ≡ c ∷ cs → bs ≡ cs
rest_of b c bs cs e = ap (λ l. drop 1 l) e

pub answer_put : (ws : List ℕ) (b : Bool) (bs : List Bool) → answers_in ws ≡ b ∷ bs → answers_in (written 0 ((get_or ws 0 0 + 1) ∷ []) ws) ≡ bs
answer_put [] b bs e = absurd (search rules)
answer_put (t ∷ ws) b bs e =
    let same = length-map ws (λ w. nat_eq w 1) in
    let low = left_of t ws b bs e in
    let one : t + 1 ≡ suc t = omega arith in
    ap (λ k. drop k (map (λ w. nat_eq w 1) ws)) one
    ∙ rest_of (get_or (map (λ w. nat_eq w 1) ws) t false) b (drop (suc t) (map (λ w. nat_eq w 1) ws)) bs (sym (drop-cons (map (λ w. nat_eq w 1) ws) t false (omega arith)) ∙ e)

-- ---- loops that write a cell's words

pub slot_words-append : (xs ys : List Scalar) → slot_words (xs ++ ys) ≡ slot_words xs ++ slot_words ys
slot_words-append [] ys = refl
slot_words-append (x ∷ xs) ys = ap (λ l. scalar_words x ++ l) (slot_words-append xs ys) ∙ sym (append_assoc (scalar_words x) (slot_words xs) (slot_words ys))

-- ---- how many words a cell of slots has

pub shape_slots : (c : Cell) (ss : List Scalar) (n : ℕ) → c ≡ Slots ss → n ≡ length ss → 2 * n ≡ length (cell_words c)
shape_slots c ss n is count = ap (λ k. 2 * k) count ∙ sym (slots_long ss) ∙ sym (ap (λ x. length (cell_words x)) is)

pub fresh_slots : (f : Fresh) (k : ℕ) → f ≡ fresh.Slots k → 2 * k ≡ length (cell_words (fresh_cell f))
fresh_slots f k is =
    let count = length-replicate k Unset in
    let long = slots_long (replicate k Unset) in
    let same : length (cell_words (fresh_cell f)) ≡ length (slot_words (replicate k Unset)) = ap (λ x. length (cell_words (fresh_cell x))) is in
    omega arith

-- ---- forms

pub form_back : (k : Form) (ws : List ℕ) → form_of (cell_in k ws) ≡ k
form_back form.Slots ws = refl
form_back form.Words ws = refl
form_back form.Answers ws = refl
