-- Room for new words: the first hole that has it, and else the end.
use Rattle.std.proofs.Common.{rules, zero, suc, ◌≡◌, ℕ, ◌+◌, ◌-◌, ◌<◌, ◌≤◌, Bool, true, false, cond, nat_eq, nat_le, nat_lt, ◌⊎◌, inl, inr, ⊎_elim, List, [], ◌∷◌, length, get_or, set, refl, sym, ap, ◌∙◌, arith, lt-ltb, le-ltb, leb-true, leb-false, eq-eqb, ne_eqb}
use Rattle.std.proofs.lemmas.Bool.Decides.{nat_tests}
use Rattle.std.proofs.lemmas.List.Elements.{All-head, All-tail}
use Rattle.std.proofs.lemmas.List.Quantifiers.{position-Some}
use Rattle.std.proofs.lemmas.List.Sums.{fails_before_first}
use Rattle.std.specs.List.{All, position, position_or_len, remove}
use Rattle.std.specs.declared.option.Option.TheVariants.{None, Some}
use Rattle.cg_flat.specs.declared.span.Hole.{Hole}
use Rattle.cg_flat.specs.Flat.{AreApart, first_filled, first_fit, has_place, holes_at, holes_left, without_front}
use Rattle.cg_flat.proofs.Counts.{has_tells}

-- ---- what is taken of the holes

abbrev pub Takes : ℕ → ℕ → ℕ → List Hole → List Hole → Type 0
Takes n at i hs left = has_place i at n + holes_at i left ≡ holes_at i hs

-- the front of one hole
front_taken : (n i : ℕ) (h : Hole) (hs : List Hole) (b : Bool) → nat_eq h.count n ≡ b → n ≤ h.count
    → has_place i h.start n + holes_at i (cond b hs (record { start = h.start + n; count = h.count - n } ∷ hs)) ≡ has_place i h.start h.count + holes_at i hs
front_taken n i h hs true e fits = let same : h.count ≡ n = grind (arith, nat_tests) in ap (λ k. has_place i h.start k + holes_at i hs) (sym same)
front_taken n i h hs false e fits = grind (arith, has_tells i h.start n, has_tells i (h.start + n) (h.count - n), has_tells i h.start h.count)

chosen_by : (n i end : ℕ) (h : Hole) (hs : List Hole) (b : Bool) → nat_lt h.count n ≡ b
    → ((first_fit n hs end ≡ end) × (first_filled n hs ≡ hs)) ⊎ ((k : ℕ) → Takes n (first_fit n hs end) k hs (first_filled n hs))
    → ((cond b (first_fit n hs end) h.start ≡ end) × (cond b (h ∷ first_filled n hs) (without_front n h hs) ≡ h ∷ hs))
    ⊎ ((k : ℕ) → Takes n (cond b (first_fit n hs end) h.start) k (h ∷ hs) (cond b (h ∷ first_filled n hs) (without_front n h hs)))
chosen_by n i end h hs true e rest =
    ⊎_elim (λ none. inl (none.0, ap (λ l. h ∷ l) none.1)) (λ some. inr (λ k. let one = some k in omega arith)) rest
chosen_by n i end h hs false e rest = inr (λ k. front_taken n k h hs (nat_eq h.count n) refl (grind (arith, nat_tests)))

-- the words come off a hole, or stand behind all, and then no hole has changed
pub fits : (n end : ℕ) (hs : List Hole) → ((first_fit n hs end ≡ end) × (first_filled n hs ≡ hs)) ⊎ ((i : ℕ) → Takes n (first_fit n hs end) i hs (first_filled n hs))
fits n end [] = inl (refl, refl)
fits n end (h ∷ hs) = chosen_by n 0 end h hs (nat_lt h.count n) refl (fits n end hs)

-- ---- the holes stay in order

pub looser : (j k : ℕ) (hs : List Hole) → j ≤ k → AreApart k hs → AreApart j hs
looser j k [] le apart = tt
looser j k (h ∷ hs) le apart = (omega arith, apart.1, apart.2)

front_apart : (n k : ℕ) (h : Hole) (hs : List Hole) (b : Bool) → nat_eq h.count n ≡ b → n ≤ h.count → AreApart k (h ∷ hs)
    → AreApart k (cond b hs (record { start = h.start + n; count = h.count - n } ∷ hs))
front_apart n k h hs true e fits apart = looser k (h.start + h.count + 1) hs (omega arith) apart.2
front_apart n k h hs false e fits apart =
    let end : h.start + n + (h.count - n) + 1 ≡ h.start + h.count + 1 = omega arith in
    (omega arith, grind (arith, nat_tests), rw end apart.2)

filled_by : (n k : ℕ) (h : Hole) (hs : List Hole) (b : Bool) → nat_lt h.count n ≡ b → AreApart k (h ∷ hs) → AreApart (h.start + h.count + 1) (first_filled n hs)
    → AreApart k (cond b (h ∷ first_filled n hs) (without_front n h hs))
filled_by n k h hs true e apart rest = (apart.0, apart.1, rest)
filled_by n k h hs false e apart rest = front_apart n k h hs (nat_eq h.count n) refl (grind (arith, nat_tests)) apart

pub filled_apart : (n k : ℕ) (hs : List Hole) → AreApart k hs → AreApart k (first_filled n hs)
filled_apart n k [] apart = tt
filled_apart n k (h ∷ hs) apart = filled_by n k h hs (nat_lt h.count n) refl apart (filled_apart n (h.start + h.count + 1) hs apart.2)

-- ---- the hole that was found by its place

cond_cons : (b : Bool) (h : Hole) (xs ys : List Hole) → h ∷ cond b xs ys ≡ cond b (h ∷ xs) (h ∷ ys)
cond_cons true h xs ys = refl
cond_cons false h xs ys = refl

pub fit_at : (n end : ℕ) (hs : List Hole) (i : ℕ) (d : Hole) → i < length hs → n ≤ (get_or hs i d).count → ((k : ℕ) → k < i → (get_or hs k d).count < n) → first_fit n hs end ≡ (get_or hs i d).start
fit_at n end [] i d low room small = absurd (omega arith)
fit_at n end (h ∷ hs) zero d low room small = ap (λ b. cond b (first_fit n hs end) h.start) (le-ltb h.count n room)
fit_at n end (h ∷ hs) (suc i) d low room small =
    ap (λ b. cond b (first_fit n hs end) h.start) (lt-ltb h.count n (small 0 (omega arith))) ∙ fit_at n end hs i d (omega arith) room (λ k below. small (suc k) (omega arith))

pub filled_at : (n : ℕ) (hs : List Hole) (i : ℕ) (d : Hole) → i < length hs → n ≤ (get_or hs i d).count → ((k : ℕ) → k < i → (get_or hs k d).count < n)
    → first_filled n hs ≡ cond (nat_eq (get_or hs i d).count n) (remove hs i) (set hs i (record { start = (get_or hs i d).start + n; count = (get_or hs i d).count - n }))
filled_at n [] i d low room small = absurd (omega arith)
filled_at n (h ∷ hs) zero d low room small = ap (λ b. cond b (h ∷ first_filled n hs) (without_front n h hs)) (le-ltb h.count n room)
filled_at n (h ∷ hs) (suc i) d low room small =
    ap (λ b. cond b (h ∷ first_filled n hs) (without_front n h hs)) (lt-ltb h.count n (small 0 (omega arith)))
    ∙ ap (λ l. h ∷ l) (filled_at n hs i d (omega arith) room (λ k below. small (suc k) (omega arith)))
    ∙ cond_cons (nat_eq (get_or hs i d).count n) h (remove hs i) (set hs i (record { start = (get_or hs i d).start + n; count = (get_or hs i d).count - n }))

pub fit_none : (n end : ℕ) (hs : List Hole) → All (λ h. nat_le n h.count ≡ false) hs → first_fit n hs end ≡ end
fit_none n end [] small = refl
fit_none n end (h ∷ hs) small =
    let first = All-head (λ (g : Hole). nat_le n g.count ≡ false) h hs small in
    let less : nat_lt h.count n ≡ true = grind (arith, nat_tests) in
    ap (λ b. cond b (first_fit n hs end) h.start) less ∙ fit_none n end hs (All-tail (λ (g : Hole). nat_le n g.count ≡ false) h hs small)

pub filled_none : (n : ℕ) (hs : List Hole) → All (λ h. nat_le n h.count ≡ false) hs → first_filled n hs ≡ hs
filled_none n [] small = refl
filled_none n (h ∷ hs) small =
    let first = All-head (λ (g : Hole). nat_le n g.count ≡ false) h hs small in
    let less : nat_lt h.count n ≡ true = grind (arith, nat_tests) in
    ap (λ b. cond b (h ∷ first_filled n hs) (without_front n h hs)) less ∙ ap (λ l. h ∷ l) (filled_none n hs (All-tail (λ (g : Hole). nat_le n g.count ≡ false) h hs small))

-- ---- the hole that a search found

pub fit_found : (n end : ℕ) (hs : List Hole) (i : ℕ) (d : Hole) → position (λ h. nat_le n h.count) hs ≡ Some i → first_fit n hs end ≡ (get_or hs i d).start
fit_found n end hs i d e =
    let found = position-Some (λ (h : Hole). nat_le n h.count) hs i d e in
    fit_at n end hs i d found.0 (leb-true n (get_or hs i d).count found.1) (λ k low. leb-false n (get_or hs k d).count (found.2 k low))

pub filled_found : (n : ℕ) (hs : List Hole) (i : ℕ) (d : Hole) → position (λ h. nat_le n h.count) hs ≡ Some i
    → first_filled n hs ≡ cond (nat_eq (get_or hs i d).count n) (remove hs i) (set hs i (record { start = (get_or hs i d).start + n; count = (get_or hs i d).count - n }))
filled_found n hs i d e =
    let found = position-Some (λ (h : Hole). nat_le n h.count) hs i d e in
    filled_at n hs i d found.0 (leb-true n (get_or hs i d).count found.1) (λ k low. leb-false n (get_or hs k d).count (found.2 k low))

pub found_room : (n : ℕ) (hs : List Hole) (i : ℕ) (d : Hole) → position (λ h. nat_le n h.count) hs ≡ Some i → (i < length hs) × (n ≤ (get_or hs i d).count)
found_room n hs i d e =
    let found = position-Some (λ (h : Hole). nat_le n h.count) hs i d e in
    (found.0, leb-true n (get_or hs i d).count found.1)

cond_none : (b : Bool) (n : ℕ) → cond b (Some n) None ≡ None → b ≡ false
cond_none true n e = absurd (search rules)
cond_none false n e = refl

pub none_found : (n : ℕ) (hs : List Hole) → position (λ h. nat_le n h.count) hs ≡ None → All (λ h. nat_le n h.count ≡ false) hs
none_found n hs e k d low =
    let test : nat_lt (position_or_len (λ (h : Hole). nat_le n h.count) hs) (length hs) ≡ false
    = cond_none (nat_lt (position_or_len (λ (h : Hole). nat_le n h.count) hs) (length hs)) (position_or_len (λ (h : Hole). nat_le n h.count) hs) e in
    let past : length hs ≤ position_or_len (λ (h : Hole). nat_le n h.count) hs = grind (arith, nat_tests) in
    fails_before_first (λ (h : Hole). nat_le n h.count) hs k d (omega arith)

-- ---- what taking its front leaves

pub whole_taken : (n : ℕ) (hs : List Hole) (i : ℕ) (h : Hole) → position (λ g. nat_le n g.count) hs ≡ Some i → h ≡ get_or hs i h → h.count ≡ n → remove hs i ≡ first_filled n hs
whole_taken n hs i h found read same =
    let count : h.count ≡ (get_or hs i h).count = ap (λ g. g.count) read in
    let test = eq-eqb (get_or hs i h).count n (omega arith) in
    sym (filled_found n hs i h found ∙ ap (λ b. cond b (remove hs i) (set hs i (record { start = (get_or hs i h).start + n; count = (get_or hs i h).count - n }))) test)

pub part_taken : (n : ℕ) (hs : List Hole) (i : ℕ) (h : Hole) → position (λ g. nat_le n g.count) hs ≡ Some i → h ≡ get_or hs i h → (h.count ≡ n → ⊥)
    → set hs i (record { start = h.start + n; count = h.count - n }) ≡ first_filled n hs
part_taken n hs i h found read apart =
    let count : h.count ≡ (get_or hs i h).count = ap (λ g. g.count) read in
    let test = ne_eqb (get_or hs i h).count n (λ same. apart (count ∙ same)) in
    ap (λ (g : Hole). set hs i (record { start = g.start + n; count = g.count - n })) read
    ∙ sym (filled_found n hs i h found ∙ ap (λ b. cond b (remove hs i) (set hs i (record { start = (get_or hs i h).start + n; count = (get_or hs i h).count - n }))) test)

left_by : (n : ℕ) (hs : List Hole) (b : Bool) → first_filled n hs ≡ hs → hs ≡ cond b hs (first_filled n hs)
left_by n hs true e = refl
left_by n hs false e = sym e

pub left_none : (n : ℕ) (hs : List Hole) → position (λ g. nat_le n g.count) hs ≡ None → hs ≡ holes_left n hs
left_none n hs e = left_by n hs (nat_eq n 0) (filled_none n hs (none_found n hs e))
