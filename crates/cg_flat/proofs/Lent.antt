-- Words that were lent and come back.
use Rattle.std.proofs.Common.{rules, ◌≡◌, ℕ, ◌+◌, ◌<◌, ◌≤◌, ◌^◌, Bool, true, false, cond, nat_lt, ltb-true, ◌⊎◌, inl, inr, ⊎_elim, slice_set, List, [], ◌∷◌, ◌++◌, length, map, nat_eq, take, drop, refl, sym, ap, subst, ◌∙◌, arith}
use Rattle.std.proofs.lemmas.List.{length-append, length-drop, length-map, length-take, take-append-le, take_all, drop-drop}
use Rattle.std.specs.FinMap as table
use Rattle.std.specs.FinMap.{FinMap}
use Rattle.std.specs.Ordering.{nat_cmp, eq_by_cmp}
use Rattle.std.specs.Option.{is_some, option_map}
use Rattle.std.specs.Prelude.{IsSome}
use Rattle.std.specs.declared.option.Option.{Option}
use Rattle.std.specs.declared.option.Option.TheVariants.{None, Some}
use Rattle.cg_heap.specs.declared.cell.Cell.{Cell}
use Rattle.cg_heap.specs.declared.cell.Cell.TheVariants.{Slots, Words, Answers}
use Rattle.cg_heap.specs.declared.cell.Form.{Form}
use Rattle.cg_heap.specs.declared.cell.Form.TheVariants as form
use Rattle.cg_heap.specs.Stored.{asked_of, cell_at, cell_length, changed, form_of, in_cell, in_place, with_element}
use Rattle.cg_flat.specs.declared.span.Span.{Span}
use Rattle.cg_flat.specs.Flat.{Flat, IsFlat, answer_word, cell_in, cell_of, cell_words, element_written, elements_of, of_elements, of_form, over, span_words, start_at, start_of, stored_of, written, words_left}
use Rattle.cg_flat.specs.Seen.{AreShort}
use Rattle.cg_flat.proofs.Cells.{element_put, slots_length}
use Rattle.cg_flat.proofs.Calls.{element_done}
use Rattle.cg_flat.proofs.Counts.{within_words}
use Rattle.cg_flat.proofs.Maps.{alike, got_put, got_put_other, got_removed, got_removed_other}
use Rattle.cg_flat.proofs.Needs.{absent_held}
use Rattle.cg_flat.proofs.Steps.{Does, is_cond, rewritten}
use Rattle.cg_flat.proofs.Stores.{asked_some, held, held_none, held_some, stored_written}
use Rattle.cg_flat.proofs.Wordy.{length_span, length-written, outside, span_laid, span_written, written_same}

-- ---- the words that are left

grown : (at : ℕ) (ws all : List ℕ) → length all ≤ length (written at ws all)
grown at ws all =
    let front = length-take at all in
    let rest = length-drop (at + length ws) all in
    let inner = length-append ws (drop (at + length ws) all) in
    let whole = length-append (take at all) (ws ++ drop (at + length ws) all) in
    grind arith

-- as a vector writes them
pub left_words : (n at : ℕ) (ws all : List ℕ) → n ≡ length all
    → take n (take at all ++ (ws ++ drop (length ws) (drop at all)) ++ drop (length (take at all ++ (ws ++ drop (length ws) (drop at all)))) all) ≡ take (length all) (written at ws all)
left_words n at ws all count =
    let same : take at all ++ (ws ++ drop (length ws) (drop at all)) ≡ written at ws all = ap (λ l. take at all ++ (ws ++ l)) (drop-drop (length ws) at all) in
    let long = grown at ws all in
    ap (λ l. take n (l ++ drop (length l) all)) same
    ∙ take-append-le n (written at ws all) (drop (length (written at ws all)) all) (omega arith)
    ∙ ap (λ k. take k (written at ws all)) count

pub left_long : (at : ℕ) (ws all : List ℕ) → length (take (length all) (written at ws all)) ≡ length all
left_long at ws all = let long = grown at ws all in let cut = length-take (length all) (written at ws all) in grind arith

-- as many words as were lent
pub left_over : (at : ℕ) (ws : List ℕ) (f : Flat) → at + length ws ≤ length f.words → words_left at ws f ≡ over at ws f
left_over at ws f fits =
    let long = length-written at ws f.words fits in
    ap (λ l. rewritten l f) (take_all (length f.words) (written at ws f.words) (omega arith))

-- ---- a store whose words were written anew

kind_short : (k : Form) (us vs : List ℕ) → length us ≡ length vs → (k ≡ form.Answers → length vs ≤ 2 ^ 32) → cell_length (cell_in k us) < 2 ^ 32 → cell_length (cell_in k vs) < 2 ^ 32
kind_short form.Slots us vs same few short =
    let old = slots_length us in
    let new = slots_length vs in
    omega arith
kind_short form.Words us vs same few short = omega arith
kind_short form.Answers us [] same few short = omega arith
kind_short form.Answers us (t ∷ vs) same few short =
    let count : length (t ∷ vs) ≤ 2 ^ 32 = few refl in
    let rest = length-drop t (map (λ w. nat_eq w 1) vs) in
    let all = length-map vs (λ w. nat_eq w 1) in
    omega arith

same_long : (f : Flat) (ws : List ℕ) (s : Span) → length ws ≡ length f.words → s.start + s.count ≤ length f.words → length (span_words f.words s) ≡ length (span_words ws s)
same_long f ws s long within = length_span f.words s within ∙ sym (length_span ws s (omega arith))

cell_short : (f : Flat) (ws : List ℕ) (p : ℕ) (s : Span) → IsFlat f → AreShort f.spans → length ws ≡ length f.words → table.get f.spans p ≡ Some s → cell_length (cell_of ws s) < 2 ^ 32
cell_short f ws p s flat few long here =
    let within = within_words f p s flat here in
    let new = length_span ws s (omega arith) in
    kind_short s.form (span_words f.words s) (span_words ws s) (same_long f ws s long within)
    (λ kind. let short = few p s here kind in omega arith)
    (flat.sound.short p (cell_of f.words s) (held_some f p s here))

within_by : (f : Flat) (ws : List ℕ) (p : ℕ) (c : Cell) (o : Option Span) → IsFlat f → table.get f.spans p ≡ o → cell_at (stored_of (rewritten ws f)) p ≡ Some c → p ≤ f.top
within_by f ws p c None flat e is = absurd (search (rules, held_none (rewritten ws f) p e, is))
within_by f ws p c (Some s) flat e is = flat.sound.within p (cell_of f.words s) (held_some f p s e)

short_by : (f : Flat) (ws : List ℕ) (p : ℕ) (c : Cell) (o : Option Span) → IsFlat f → AreShort f.spans → length ws ≡ length f.words → table.get f.spans p ≡ o → cell_at (stored_of (rewritten ws f)) p ≡ Some c → cell_length c < 2 ^ 32
short_by f ws p c None flat few long e is = absurd (search (rules, held_none (rewritten ws f) p e, is))
short_by f ws p c (Some s) flat few long e is =
    let same : cell_of ws s ≡ c = search (rules, held_some (rewritten ws f) p s e, is) in
    subst (λ d. cell_length d < 2 ^ 32) same (cell_short f ws p s flat few long e)

-- whatever words stand there, as many as before
pub flat_rewritten : (f : Flat) (ws : List ℕ) → IsFlat f → AreShort f.spans → length ws ≡ length f.words → IsFlat (rewritten ws f)
flat_rewritten f ws flat few long = record {
  fills = λ i. rw long (flat.fills i);
  apart = flat.apart;
  empty = flat.empty;
  sound = record {
    within = λ p c is. within_by f ws p c (table.get f.spans p) flat refl is;
    no_null = held_none (rewritten ws f) 0 (absent_held f 0 flat.sound.no_null);
    short = λ p c is. short_by f ws p c (table.get f.spans p) flat few long refl is;
    small = flat.sound.small;
  };
}

-- ---- the spans of answers are short

pub words_short : (c : Cell) → cell_length c < 2 ^ 32 → form_of c ≡ form.Answers → length (cell_words c) ≤ 2 ^ 32
words_short (Slots ss) few is = absurd (search rules)
words_short (Words ns) few is = absurd (search rules)
words_short (Answers bs) few is = let long = length-map bs answer_word in omega arith

short_put_at : (m : FinMap nat_cmp Span) (p : ℕ) (v : Span) → AreShort m → (v.form ≡ form.Answers → v.count ≤ 2 ^ 32) → (q : ℕ) (s : Span) (b : Bool) → eq_by_cmp nat_cmp q p ≡ b
    → table.get (table.insert m p v) q ≡ Some s → s.form ≡ form.Answers → s.count ≤ 2 ^ 32
short_put_at m p v few short q s true e there kind =
    let same : Some v ≡ Some s = sym (ap (table.get (table.insert m p v)) (alike q p e) ∙ got_put m p v) ∙ there in
    let is : v ≡ s = search rules in
    subst (λ t. t.form ≡ form.Answers → t.count ≤ 2 ^ 32) is short kind
short_put_at m p v few short q s false e there kind = few q s (sym (got_put_other m p v q e) ∙ there) kind

-- a span was put in
pub short_put : (m n : FinMap nat_cmp Span) (p : ℕ) (v : Span) → n ≡ table.insert m p v → AreShort m → (v.form ≡ form.Answers → v.count ≤ 2 ^ 32) → AreShort n
short_put m n p v is few short = subst AreShort (sym is) (λ q s there kind. short_put_at m p v few short q s (eq_by_cmp nat_cmp q p) refl there kind)

short_removed_at : (m : FinMap nat_cmp Span) (p : ℕ) → AreShort m → (q : ℕ) (s : Span) (b : Bool) → eq_by_cmp nat_cmp q p ≡ b → table.get (table.remove m p) q ≡ Some s → s.form ≡ form.Answers → s.count ≤ 2 ^ 32
short_removed_at m p few q s true e there kind =
    let gone : table.get (table.remove m p) q ≡ None = ap (table.get (table.remove m p)) (alike q p e) ∙ got_removed m p in
    absurd (search (rules, gone, there))
short_removed_at m p few q s false e there kind = few q s (sym (got_removed_other m p q e) ∙ there) kind

-- a span was taken out
pub short_removed : (m n : FinMap nat_cmp Span) (p : ℕ) → n ≡ table.remove m p → AreShort m → AreShort n
short_removed m n p is few = subst AreShort (sym is) (λ q s there kind. short_removed_at m p few q s (eq_by_cmp nat_cmp q p) refl there kind)

-- ---- the span of a cell of elements

element_out : (start count i k : ℕ) → i < count → (k < start) ⊎ (start + count ≤ k) → (k < start + i) ⊎ (start + i + 1 ≤ k)
element_out start count i k low out = ⊎_elim (λ l. inl (omega arith)) (λ h. inr (omega arith)) out

form_here : (k : Form) (t s : Span) → t.form ≡ k → of_form k t ≡ Some s → (Some t ≡ Some s) × (s.form ≡ form.Words)
form_here form.Slots t s kind e = absurd (search rules)
form_here form.Words t s kind e = let is : t ≡ s = search rules in (e, subst (λ u. u.form ≡ form.Words) is kind)
form_here form.Answers t s kind e = absurd (search rules)

pub of_here : (o : Option Span) (s : Span) → of_elements o ≡ Some s → (o ≡ Some s) × (s.form ≡ form.Words)
of_here None s e = absurd (search rules)
of_here (Some t) s e = form_here t.form t s refl e

pub of_within : (f : Flat) (p : ℕ) (s : Span) → IsFlat f → of_elements (table.get f.spans p) ≡ Some s → s.start + s.count ≤ length f.words
of_within f p s flat here = within_words f p s flat (of_here (table.get f.spans p) s here).0

pub of_start : (f : Flat) (p : ℕ) (s : Span) → of_elements (table.get f.spans p) ≡ Some s → start_at p f ≡ s.start
of_start f p s here = ap start_of (of_here (table.get f.spans p) s here).0

asked_form : (k : Form) (ws : List ℕ) (t : Span) → elements_of (cell_in k (span_words ws t)) ≡ option_map (span_words ws) (of_form k t)
asked_form form.Slots ws t = refl
asked_form form.Words ws t = refl
asked_form form.Answers ws t = refl

asked_by : (ws : List ℕ) (o : Option Span) → in_cell elements_of (option_map (cell_of ws) o) ≡ option_map (span_words ws) (of_elements o)
asked_by ws None = refl
asked_by ws (Some t) = asked_form t.form ws t

-- the elements of a cell are the words of its span
pub asked_elements : (f : Flat) (p : ℕ) → asked_of elements_of p (stored_of f) ≡ option_map (span_words f.words) (of_elements (table.get f.spans p))
asked_elements f p = ap (in_cell elements_of) (held f p) ∙ asked_by f.words (table.get f.spans p)

some_of : (g : Span → List ℕ) (o : Option Span) → IsSome (option_map g o) → IsSome o
some_of g None some = some
some_of g (Some t) some = some

-- a cell of elements has a span
pub some_span : (f : Flat) (p : ℕ) → IsSome (asked_of elements_of p (stored_of f)) → IsSome (of_elements (table.get f.spans p))
some_span f p some = some_of (span_words f.words) (of_elements (table.get f.spans p)) (subst IsSome (asked_elements f p) some)

none_form : (k : Form) (i n : ℕ) (ws : List ℕ) (t : Span) → of_form k t ≡ None → with_element i n (cell_in k ws) ≡ None
none_form form.Slots i n ws t e = refl
none_form form.Words i n ws t e = absurd (search rules)
none_form form.Answers i n ws t e = refl

none_by : (i n : ℕ) (ws : List ℕ) (o : Option Span) → of_elements o ≡ None → in_cell (with_element i n) (option_map (cell_of ws) o) ≡ None
none_by i n ws None e = refl
none_by i n ws (Some t) e = none_form t.form i n (span_words ws t) t e

-- where there are none, none is written
pub none_written : (i n : ℕ) (f : Flat) (p : ℕ) → of_elements (table.get f.spans p) ≡ None → asked_of (with_element i n) p (stored_of f) ≡ None
none_written i n f p e = ap (in_cell (with_element i n)) (held f p) ∙ none_by i n f.words (table.get f.spans p) e

element_test : (all : List ℕ) (s : Span) (i n : ℕ) → s.form ≡ form.Words → nat_lt i (length (span_words all s)) ≡ is_some (with_element i n (cell_of all s))
element_test all s i n is =
    sym (ap (λ k. is_some (with_element i n (cell_in k (span_words all s)))) is ∙ is_cond (nat_lt i (length (span_words all s))) (Words (slice_set (span_words all s) i n)))

put_left : (all : List ℕ) (s : Span) (i n : ℕ) (b : Bool) → s.start + s.count ≤ length all → nat_lt i (length (span_words all s)) ≡ b
    → take (length all) (written s.start (cond b (slice_set (span_words all s) i n) (span_words all s)) all) ≡ cond b (written (s.start + i) (n ∷ []) all) all
put_left all s i n true within e =
    let long = length_span all s within in
    let low : i < length (span_words all s) = ltb-true i (length (span_words all s)) e in
    let same = length-written (s.start + i) (n ∷ []) all (omega arith) in
    ap (λ l. take (length all) (written s.start l all)) (sym (element_put i n (span_words all s) low) ∙ sym (span_written i (n ∷ []) all s (omega arith) within))
    ∙ ap (take (length all)) (written_same (written (s.start + i) (n ∷ []) all) all s same within (λ k out. outside (s.start + i) (n ∷ []) all k (omega arith) (element_out s.start s.count i k (omega arith) out)))
    ∙ take_all (length all) (written (s.start + i) (n ∷ []) all) (omega arith)
put_left all s i n false within e = ap (take (length all)) (written_same all all s refl within (λ k out. refl)) ∙ take_all (length all) all (omega arith)

-- whether there is such an element
pub element_told : (f : Flat) (p i n : ℕ) (s : Span) (b : Bool) (es : List ℕ) → of_elements (table.get f.spans p) ≡ Some s → es ≡ span_words f.words s → b ≡ nat_lt i (length es)
    → b ≡ is_some (asked_of (with_element i n) p (stored_of f))
element_told f p i n s b es here lent test =
    let both = of_here (table.get f.spans p) s here in
    test ∙ ap (λ l. nat_lt i (length l)) lent ∙ element_test f.words s i n both.1 ∙ ap is_some (sym (asked_some (with_element i n) f p s both.0))

-- an element was written where the words were lent
pub element_left : (f : Flat) (p i n : ℕ) (s : Span) (b : Bool) (es ws : List ℕ) → IsFlat f → of_elements (table.get f.spans p) ≡ Some s → es ≡ span_words f.words s
    → b ≡ nat_lt i (length es) → ws ≡ cond b (slice_set es i n) es → Does (words_left s.start ws f) (element_written p i n f) (changed (with_element i n) p (stored_of f))
element_left f p i n s b es ws flat here lent test is =
    let both = of_here (table.get f.spans p) s here in
    let within = within_words f p s flat both.0 in
    let told : b ≡ nat_lt i (length (span_words f.words s)) = test ∙ ap (λ l. nat_lt i (length l)) lent in
    element_done f p i n s b (take (length f.words) (written s.start ws f.words)) flat both.0 (told ∙ element_test f.words s i n both.1)
    (ap (λ l. take (length f.words) (written s.start l f.words)) (is ∙ ap (λ l. cond b (slice_set l i n) l) lent) ∙ put_left f.words s i n b within (sym told))

-- ---- what a borrower learns

pub left_elements : (f : Flat) (p : ℕ) (s : Span) (ws : List ℕ) → IsFlat f → of_elements (table.get f.spans p) ≡ Some s → length ws ≡ length (span_words f.words s)
    → (words_left (start_at p f) ws f ≡ over (start_at p f) ws f) × (stored_of (over (start_at p f) ws f) ≡ in_place p (Some (Words ws)) (stored_of f))
left_elements f p s ws flat here long =
    let both = of_here (table.get f.spans p) s here in
    let within = within_words f p s flat both.0 in
    let count = length_span f.words s within in
    let start : start_at p f ≡ s.start = ap start_of both.0 in
    let cell : cell_of (written s.start ws f.words) s ≡ Words ws = ap (λ k. cell_in k (span_words (written s.start ws f.words) s)) both.1 ∙ ap Words (span_laid ws f.words s (omega arith) within) in
    (left_over (start_at p f) ws f (omega arith), ap (λ n. stored_of (over n ws f)) start ∙ stored_written f p s s.start ws (Words ws) flat both.0 (omega arith) (omega arith) cell)
