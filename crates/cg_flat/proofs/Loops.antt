-- One step of a loop that writes a cell's words.
use Rattle.std.proofs.Common.{◌≡◌, ℕ, ◌+◌, ◌*◌, ◌<◌, ◌≤◌, Bool, List, [], ◌∷◌, ◌++◌, length, map, take, get_or, set, sym, ap, ◌∙◌, arith}
use Rattle.std.proofs.lemmas.List.{append-nil, length-map, length-take-le, map-append, replicate-append-replicate, take_more}
use Rattle.cg_heap.specs.declared.cell.Scalar.{Scalar}
use Rattle.cg_flat.specs.Flat.{answer_word, scalar_words, slot_words, written}
use Rattle.cg_flat.proofs.Cells.{scalar_long, slot_words-append, slots_long}
use Rattle.cg_flat.proofs.Wordy.{one_more, written_more, written_none, zeros, zeros_long}

pub slots_step : (at i : ℕ) (x : Scalar) (slots : List Scalar) (all : List ℕ) → i < length slots → x ≡ get_or slots i x → at + 2 * length slots ≤ length all
    → written (at + 2 * i) (scalar_words x) (written at (slot_words (take i slots)) all) ≡ written at (slot_words (take (i + 1) slots)) all
slots_step at i x slots all low read fits =
    let front = length-take-le i slots (omega arith) in
    let count : length (slot_words (take i slots)) ≡ 2 * i = slots_long (take i slots) ∙ ap (λ n. 2 * n) front in
    let two = scalar_long x in
    let more : take (i + 1) slots ≡ take i slots ++ x ∷ [] = take_more slots i x low ∙ ap (λ y. take i slots ++ y ∷ []) (sym read) in
    let words : slot_words (take (i + 1) slots) ≡ slot_words (take i slots) ++ scalar_words x
    = ap slot_words more ∙ slot_words-append (take i slots) (x ∷ []) ∙ ap (λ l. slot_words (take i slots) ++ l) (append-nil (scalar_words x)) in
    ap (λ n. written (at + n) (scalar_words x) (written at (slot_words (take i slots)) all)) (sym count)
    ∙ written_more at (slot_words (take i slots)) (scalar_words x) all (omega arith)
    ∙ ap (λ l. written at l all) (sym words)

pub elements_step : (at i w : ℕ) (es all : List ℕ) → i < length es → w ≡ get_or es i 0 → at + length es ≤ length all → set (written at (take i es) all) (at + i) w ≡ written at (take (i + 1) es) all
elements_step at i w es all low read fits =
    let count : length (take i es) ≡ i = length-take-le i es (omega arith) in
    let more : take (i + 1) es ≡ take i es ++ w ∷ [] = take_more es i 0 low ∙ ap (λ y. take i es ++ y ∷ []) (sym read) in
    ap (λ n. set (written at (take i es) all) (at + n) w) (sym count) ∙ one_more at w (take i es) all (omega arith) ∙ ap (λ l. written at l all) (sym more)

pub answers_step : (at i : ℕ) (b d : Bool) (bs : List Bool) (all : List ℕ) → i < length bs → b ≡ get_or bs i d → at + (length bs + 1) ≤ length all
    → set (written at (0 ∷ map answer_word (take i bs)) all) (at + 1 + i) (answer_word b) ≡ written at (0 ∷ map answer_word (take (i + 1) bs)) all
answers_step at i b d bs all low read fits =
    let front = length-take-le i bs (omega arith) in
    let same = length-map (take i bs) answer_word in
    let count : at + 1 + i ≡ at + length (0 ∷ map answer_word (take i bs)) = omega arith in
    let more : map answer_word (take (i + 1) bs) ≡ map answer_word (take i bs) ++ answer_word b ∷ []
    = ap (map answer_word) (take_more bs i d low ∙ ap (λ y. take i bs ++ y ∷ []) (sym read)) ∙ map-append answer_word (take i bs) (b ∷ []) in
    ap (λ n. set (written at (0 ∷ map answer_word (take i bs)) all) n (answer_word b)) count
    ∙ one_more at (answer_word b) (0 ∷ map answer_word (take i bs)) all (omega arith)
    ∙ ap (λ l. written at (0 ∷ l) all) (sym more)

pub clear_step : (at i : ℕ) (all : List ℕ) → at + i < length all → set (written at (zeros i) all) (at + i) 0 ≡ written at (zeros (i + 1)) all
clear_step at i all low =
    let count = zeros_long i in
    ap (λ n. set (written at (zeros i) all) (at + n) 0) (sym count) ∙ one_more at 0 (zeros i) all (omega arith) ∙ ap (λ l. written at l all) (replicate-append-replicate i 1 0)

-- before the first step
pub nothing_yet : (at : ℕ) (all : List ℕ) → all ≡ written at [] all
nothing_yet at all = sym (written_none at all)
