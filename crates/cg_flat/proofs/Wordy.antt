-- Words that are written over others.
use Rattle.std.proofs.Common.{suc, ◌≡◌, ℕ, ◌+◌, ◌-◌, ◌<◌, ◌≤◌, ◌⊎◌, inl, inr, ⊎_elim, List, [], ◌∷◌, ◌++◌, length, take, drop, get_or, set, replicate, refl, sym, ap, ◌∙◌, arith}
use Rattle.std.proofs.lemmas.List.{append-nil, append_assoc, length-append, length-drop, length-take-le, get_or-take, get_or-drop, get_or_append_left, get_or-append_right, ext_get_or, take-append-le, drop_all, take_at, drop_at, drop-drop, length-replicate, set_split, take-append-drop}
use Rattle.cg_flat.specs.declared.span.Span.{Span}
use Rattle.cg_flat.specs.Flat.{span_words, written}

pub length-written : (at : ℕ) (ws all : List ℕ) → at + length ws ≤ length all → length (written at ws all) ≡ length all
length-written at ws all fits =
    let front = length-take-le at all (omega arith) in
    let rest = length-drop (at + length ws) all in
    let inner = length-append ws (drop (at + length ws) all) in
    let whole = length-append (take at all) (ws ++ drop (at + length ws) all) in
    omega arith

-- ---- the word at a place

before : (at : ℕ) (ws all : List ℕ) (i : ℕ) → at ≤ length all → i < at → get_or (written at ws all) i 0 ≡ get_or all i 0
before at ws all i fits low =
    let front = length-take-le at all fits in
    get_or_append_left (take at all) (ws ++ drop (at + length ws) all) 0 i (omega arith) ∙ get_or-take at all i 0 low

rest_at : (at : ℕ) (ws all : List ℕ) (k : ℕ) → at ≤ length all → get_or (written at ws all) (at + k) 0 ≡ get_or (ws ++ drop (at + length ws) all) k 0
rest_at at ws all k fits =
    let front = length-take-le at all fits in
    let same : (at + k) - at ≡ k = omega arith in
    get_or-append_right (take at all) (ws ++ drop (at + length ws) all) at (at + k) 0 front (omega arith) ∙ ap (λ j. get_or (ws ++ drop (at + length ws) all) j 0) same

pub inside : (at : ℕ) (ws all : List ℕ) (k : ℕ) → at ≤ length all → k < length ws → get_or (written at ws all) (at + k) 0 ≡ get_or ws k 0
inside at ws all k fits low = rest_at at ws all k fits ∙ get_or_append_left ws (drop (at + length ws) all) 0 k low

behind_by : (at : ℕ) (ws all : List ℕ) (k : ℕ) → at ≤ length all → get_or (written at ws all) (at + (length ws + k)) 0 ≡ get_or all (at + length ws + k) 0
behind_by at ws all k fits =
    let same : (length ws + k) - length ws ≡ k = omega arith in
    rest_at at ws all (length ws + k) fits
    ∙ get_or-append_right ws (drop (at + length ws) all) (length ws) (length ws + k) 0 refl (omega arith)
    ∙ ap (λ j. get_or (drop (at + length ws) all) j 0) same
    ∙ get_or-drop (at + length ws) all k 0

behind : (at : ℕ) (ws all : List ℕ) (i : ℕ) → at ≤ length all → at + length ws ≤ i → get_or (written at ws all) i 0 ≡ get_or all i 0
behind at ws all i fits high =
    let one : at + (length ws + (i - (at + length ws))) ≡ i = omega arith in
    let two : at + length ws + (i - (at + length ws)) ≡ i = omega arith in
    ap (λ j. get_or (written at ws all) j 0) (sym one) ∙ behind_by at ws all (i - (at + length ws)) fits ∙ ap (λ j. get_or all j 0) two

pub outside : (at : ℕ) (ws all : List ℕ) (i : ℕ) → at ≤ length all → (i < at) ⊎ (at + length ws ≤ i) → get_or (written at ws all) i 0 ≡ get_or all i 0
outside at ws all i fits out = ⊎_elim (λ low. before at ws all i fits low) (λ high. behind at ws all i fits high) out

-- ---- the words of a span

length_part : (start count : ℕ) (all : List ℕ) → start + count ≤ length all → length (take count (drop start all)) ≡ count
length_part start count all fits = let rest = length-drop start all in length-take-le count (drop start all) (omega arith)

pub length_span : (all : List ℕ) (s : Span) → s.start + s.count ≤ length all → length (span_words all s) ≡ s.count
length_span all s fits = length_part s.start s.count all fits

part_at : (start count : ℕ) (all : List ℕ) (k : ℕ) → k < count → get_or (take count (drop start all)) k 0 ≡ get_or all (start + k) 0
part_at start count all k low = get_or-take count (drop start all) k 0 low ∙ get_or-drop start all k 0

-- a span is as it was, where none of its words was written
pub span_kept : (at : ℕ) (ws all : List ℕ) (s : Span) → at + length ws ≤ length all → s.start + s.count ≤ length all
    → ((k : ℕ) → k < s.count → (s.start + k < at) ⊎ (at + length ws ≤ s.start + k)) → span_words (written at ws all) s ≡ span_words all s
span_kept at ws all s fits within out =
    let same = length-written at ws all fits in
    let new = length_part s.start s.count (written at ws all) (omega arith) in
    let old = length_part s.start s.count all within in
    ext_get_or 0 _ _ (new ∙ sym old) (λ k low.
    let below : k < s.count = omega arith in
    part_at s.start s.count (written at ws all) k below ∙ outside at ws all (s.start + k) (omega arith) (out k below) ∙ sym (part_at s.start s.count all k below))

where_is : (j l k : ℕ) → ((k < j) ⊎ (j + l ≤ k)) ⊎ ((j ≤ k) × (k < j + l))
where_is j l k = grind arith

inside_at : (at : ℕ) (ws all : List ℕ) (i : ℕ) → at ≤ length all → at ≤ i → i < at + length ws → get_or (written at ws all) i 0 ≡ get_or ws (i - at) 0
inside_at at ws all i fits low high =
    let same : at + (i - at) ≡ i = omega arith in
    ap (λ j. get_or (written at ws all) j 0) (sym same) ∙ inside at ws all (i - at) fits (omega arith)

further : (j l k start : ℕ) → (k < j) ⊎ (j + l ≤ k) → (start + k < start + j) ⊎ (start + j + l ≤ start + k)
further j l k start out = ⊎_elim (λ low. inl (omega arith)) (λ high. inr (omega arith)) out

same_word : (j : ℕ) (ws all : List ℕ) (s : Span) (k : ℕ) → j + length ws ≤ s.count → s.start + s.count ≤ length all → k < s.count
    → get_or (written (s.start + j) ws all) (s.start + k) 0 ≡ get_or (written j ws (span_words all s)) k 0
same_word j ws all s k fits within below =
    let long = length_span all s within in
    ⊎_elim (λ out. outside (s.start + j) ws all (s.start + k) (omega arith) (further j (length ws) k s.start out) ∙ sym (outside j ws (span_words all s) k (omega arith) out ∙ part_at s.start s.count all k below))
    (λ in'.
    let low : j ≤ k = in'.0 in
    let high : k < j + length ws = in'.1 in
    let same : (s.start + k) - (s.start + j) ≡ k - j = omega arith in
    inside_at (s.start + j) ws all (s.start + k) (omega arith) (omega arith) (omega arith) ∙ ap (λ n. get_or ws n 0) same ∙ sym (inside_at j ws (span_words all s) k (omega arith) low high))
    (where_is j (length ws) k)

-- words written within a span
pub span_written : (j : ℕ) (ws all : List ℕ) (s : Span) → j + length ws ≤ s.count → s.start + s.count ≤ length all → span_words (written (s.start + j) ws all) s ≡ written j ws (span_words all s)
span_written j ws all s fits within =
    let same = length-written (s.start + j) ws all (omega arith) in
    let new = length_part s.start s.count (written (s.start + j) ws all) (omega arith) in
    let old = length_span all s within in
    let whole = length-written j ws (span_words all s) (omega arith) in
    ext_get_or 0 _ _ (new ∙ sym (whole ∙ old)) (λ k low.
    let below : k < s.count = omega arith in
    part_at s.start s.count (written (s.start + j) ws all) k below ∙ same_word j ws all s k fits within below)

-- the whole of a span was written
pub span_laid : (ws all : List ℕ) (s : Span) → s.count ≡ length ws → s.start + s.count ≤ length all → span_words (written s.start ws all) s ≡ ws
span_laid ws all s long within =
    let same = length-written s.start ws all (omega arith) in
    let new = length_part s.start s.count (written s.start ws all) (omega arith) in
    ext_get_or 0 _ _ (new ∙ long) (λ k low.
    let below : k < s.count = omega arith in
    part_at s.start s.count (written s.start ws all) k below ∙ inside s.start ws all k (omega arith) (omega arith))

-- a span of words that are elsewhere as before, written over those
pub written_same : (new all : List ℕ) (s : Span) → length new ≡ length all → s.start + s.count ≤ length all → ((k : ℕ) → (k < s.start) ⊎ (s.start + s.count ≤ k) → get_or new k 0 ≡ get_or all k 0)
    → written s.start (span_words new s) all ≡ new
written_same new all s same within out =
    let long = length_span new s (omega arith) in
    let whole = length-written s.start (span_words new s) all (omega arith) in
    ext_get_or 0 _ _ (whole ∙ sym same) (λ k low.
    ⊎_elim (λ o. outside s.start (span_words new s) all k (omega arith) (rw long o) ∙ sym (out k o))
    (λ in'.
    let first : s.start ≤ k = in'.0 in
    let last : k < s.start + s.count = in'.1 in
    let back : s.start + (k - s.start) ≡ k = omega arith in
    inside_at s.start (span_words new s) all k (omega arith) first (omega arith) ∙ part_at s.start s.count new (k - s.start) (omega arith) ∙ ap (λ j. get_or new j 0) back)
    (where_is s.start s.count k))

-- ---- words written behind one another

abbrev pub zeros : ℕ → List ℕ
zeros n = replicate n 0

pub zeros_long : (n : ℕ) → length (zeros n) ≡ n
zeros_long n = length-replicate n 0

dropped_grown : (k n : ℕ) (all : List ℕ) → (k ≤ length all) ⊎ (length all ≤ k) → drop k (all ++ replicate (k - length all) n) ≡ drop k all
dropped_grown k n all which =
    ⊎_elim (λ low.
    let none : k - length all ≡ 0 = omega arith in
    ap (λ m. drop k (all ++ replicate m n)) none ∙ ap (drop k) (append-nil all))
    (λ high.
    let more = length-append all (replicate (k - length all) n) in
    let count = length-replicate (k - length all) n in
    drop_all k (all ++ replicate (k - length all) n) (omega arith) ∙ sym (drop_all k all high))
    which

-- the words of a list that grew at its end, written from within it on
pub written_grown : (at n : ℕ) (ws all : List ℕ) → at ≤ length all → written at ws (all ++ replicate (at + length ws - length all) n) ≡ written at ws all
written_grown at n ws all fits =
    ap (λ l. l ++ (ws ++ drop (at + length ws) (all ++ replicate (at + length ws - length all) n))) (take-append-le at all (replicate (at + length ws - length all) n) fits)
    ∙ ap (λ l. take at all ++ (ws ++ l)) (dropped_grown (at + length ws) n all (grind arith))

-- words written behind those that were written before
pub written_more : (at : ℕ) (ws vs all : List ℕ) → at + length ws + length vs ≤ length all → written (at + length ws) vs (written at ws all) ≡ written at (ws ++ vs) all
written_more at ws vs all fits =
    let front = length-take-le at all (omega arith) in
    let both = length-append (take at all) ws in
    let long = length-append ws vs in
    let regroup : written at ws all ≡ (take at all ++ ws) ++ drop (at + length ws) all = sym (append_assoc (take at all) ws (drop (at + length ws) all)) in
    let taken : take (at + length ws) (written at ws all) ≡ take at all ++ ws = ap (take (at + length ws)) regroup ∙ take_at (take at all ++ ws) (drop (at + length ws) all) (at + length ws) (omega arith) in
    let rest : drop (at + length ws) (written at ws all) ≡ drop (at + length ws) all = ap (drop (at + length ws)) regroup ∙ drop_at (take at all ++ ws) (drop (at + length ws) all) (at + length ws) (omega arith) in
    let count : at + length ws + length vs ≡ at + length (ws ++ vs) = omega arith in
    let dropped : drop (at + length ws + length vs) (written at ws all) ≡ drop (at + length (ws ++ vs)) all
    = sym (drop-drop (length vs) (at + length ws) (written at ws all)) ∙ ap (drop (length vs)) rest ∙ drop-drop (length vs) (at + length ws) all ∙ ap (λ k. drop k all) count in
    ap (λ l. l ++ (vs ++ drop (at + length ws + length vs) (written at ws all))) taken
    ∙ ap (λ l. (take at all ++ ws) ++ (vs ++ l)) dropped
    ∙ append_assoc (take at all) ws (vs ++ drop (at + length (ws ++ vs)) all)
    ∙ ap (λ l. take at all ++ l) (sym (append_assoc ws vs (drop (at + length (ws ++ vs)) all)))

pub written_none : (at : ℕ) (all : List ℕ) → written at [] all ≡ all
written_none at all = let same : at + 0 ≡ at = omega arith in ap (λ k. take at all ++ drop k all) same ∙ take-append-drop at all

pub written_one : (at w : ℕ) (all : List ℕ) → at < length all → set all at w ≡ written at (w ∷ []) all
written_one at w all low = let same : suc at ≡ at + 1 = omega arith in set_split all at w low ∙ ap (λ k. take at all ++ w ∷ drop k all) same

-- one word written behind others
pub one_more : (at w : ℕ) (ws all : List ℕ) → at + length ws < length all → set (written at ws all) (at + length ws) w ≡ written at (ws ++ w ∷ []) all
one_more at w ws all low =
    let same = length-written at ws all (omega arith) in
    written_one (at + length ws) w (written at ws all) (omega arith) ∙ written_more at ws (w ∷ []) all (omega arith)

-- two words written, one by one
pub two_written : (at v w : ℕ) (all : List ℕ) → at + 1 < length all → set (set all at v) (at + 1) w ≡ written at (v ∷ w ∷ []) all
two_written at v w all low = ap (λ l. set l (at + 1) w) (written_one at v all (omega arith)) ∙ one_more at w (v ∷ []) all (omega arith)
