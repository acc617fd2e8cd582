-- How many spans and holes have a place.
use Rattle.std.proofs.Common.{rules, zero, suc, ◌≡◌, ℕ, ◌+◌, ◌<◌, ◌≤◌, false, cond, ◌⊎◌, List, [], ◌∷◌, length, nat_lt, refl, sym, ap, ◌∙◌, arith}
use Rattle.std.proofs.lemmas.Bool.Decides.{nat_tests}
use Rattle.std.specs.Cmp.{nat_cmp_total}
use Rattle.std.specs.FinMap as table
use Rattle.std.specs.FinMap.{FinMap, find, put, get-entries, entries-insert}
use Rattle.std.specs.declared.cmp.Ordering.{Ordering}
use Rattle.std.specs.declared.cmp.Ordering.TheVariants.{Less, Equal, Greater}
use Rattle.std.specs.declared.option.Option.{Option}
use Rattle.std.specs.declared.option.Option.TheVariants.{None, Some}
use Rattle.std.specs.Ordering.{nat_cmp, eq_by_cmp, is_eq}
use Rattle.std.specs.FinMap.Entries.{by_order}
use Rattle.cg_flat.specs.declared.span.Span.{Span}
use Rattle.cg_flat.specs.Flat.{Flat, IsFlat, entries_at, has_place, spans_at}
use Rattle.cg_flat.proofs.Maps.{got_removed, got_removed_other, put_back}

-- ---- one run of words

pub has_tells : (i start count : ℕ) → ((has_place i start count ≡ 1) × ((start ≤ i) × (i < start + count))) ⊎ ((has_place i start count ≡ 0) × ((i < start) ⊎ (start + count ≤ i)))
has_tells i start count = grind (arith, nat_tests)

pub has_inside : (i start count : ℕ) → start ≤ i → i < start + count → has_place i start count ≡ 1
has_inside i start count low high = grind (arith, has_tells i start count)

-- whether words that end at n have the place i, as a number
abbrev pub below : ℕ → ℕ → ℕ
below i n = cond (nat_lt i n) 1 0

pub below_tells : (i n : ℕ) → ((below i n ≡ 1) × (i < n)) ⊎ ((below i n ≡ 0) × (n ≤ i))
below_tells i n = grind (arith, nat_tests)

-- ---- spans

by_placing : (i k : ℕ) (v : Span) (x : ℕ × Span) (es rest : List (ℕ × Span)) (o : Option Span) (r : Ordering) → cond (is_eq r) (Some x.1) o ≡ None
    → (o ≡ None → entries_at i rest ≡ has_place i v.start v.count + entries_at i es)
    → entries_at i (by_order r ((k, v) ∷ x ∷ es) ((x.0, v) ∷ es) (x ∷ rest)) ≡ has_place i v.start v.count + (has_place i x.1.start x.1.count + entries_at i es)
by_placing i k v x es rest o Less none more = refl
by_placing i k v x es rest o Equal none more = absurd (search rules)
by_placing i k v x es rest o Greater none more = let step = more none in omega arith

put_count : (i k : ℕ) (v : Span) (es : List (ℕ × Span)) → find nat_cmp k es ≡ None → entries_at i (put nat_cmp k v es) ≡ has_place i v.start v.count + entries_at i es
put_count i k v [] none = refl
put_count i k v (x ∷ es) none = by_placing i k v x es (put nat_cmp k v es) (find nat_cmp k es) (nat_cmp k x.0) none (put_count i k v es)

-- a span was put in
pub spans_put : (i : ℕ) (m : FinMap nat_cmp Span) (p : ℕ) (v : Span) → table.get m p ≡ None → spans_at i (table.insert m p v) ≡ has_place i v.start v.count + spans_at i m
spans_put i m p v none = ap (entries_at i) (entries-insert nat_cmp_total m p v) ∙ put_count i p v (table.entries m) (sym (get-entries m p) ∙ none)

-- a span was taken out
pub spans_taken : (i : ℕ) (m : FinMap nat_cmp Span) (p : ℕ) (v : Span) → table.get m p ≡ Some v → spans_at i m ≡ has_place i v.start v.count + spans_at i (table.remove m p)
spans_taken i m p v here = ap (spans_at i) (put_back m p v here) ∙ spans_put i (table.remove m p) p v (got_removed m p)

pub one_of : (i : ℕ) (m : FinMap nat_cmp Span) (p : ℕ) (v : Span) → table.get m p ≡ Some v → has_place i v.start v.count ≤ spans_at i m
one_of i m p v here = let whole = spans_taken i m p v here in omega arith

pub two_of : (i : ℕ) (m : FinMap nat_cmp Span) (p q : ℕ) (u v : Span) → eq_by_cmp nat_cmp q p ≡ false → table.get m p ≡ Some u → table.get m q ≡ Some v
    → has_place i u.start u.count + has_place i v.start v.count ≤ spans_at i m
two_of i m p q u v apart here there =
    let whole = spans_taken i m p u here in
    let rest = one_of i (table.remove m p) q v (got_removed_other m p q apart ∙ there) in
    omega arith

-- ---- a flat store

within_by : (f : Flat) (p : ℕ) (s : Span) → IsFlat f → table.get f.spans p ≡ Some s → (n : ℕ) → s.count ≡ n → s.start + n ≤ length f.words
within_by f p s flat here zero e = let start = flat.empty p s here e in omega arith
within_by f p s flat here (suc n) e =
    let whole = flat.fills (s.start + n) in
    let one = one_of (s.start + n) f.spans p s here in
    let has = has_inside (s.start + n) s.start s.count (omega arith) (omega arith) in
    grind (arith, below_tells (s.start + n) (length f.words))

-- a span ends within the words
pub within_words : (f : Flat) (p : ℕ) (s : Span) → IsFlat f → table.get f.spans p ≡ Some s → s.start + s.count ≤ length f.words
within_words f p s flat here = within_by f p s flat here s.count refl
