-- One more hole among holes.
use Rattle.std.proofs.Common.{zero, suc, ◌≡◌, ℕ, ◌+◌, ◌≤◌, min, Bool, true, false, cond, nat_lt, ◌⊎◌, List, [], ◌∷◌, get_or, refl, ap, ◌∙◌, arith}
use Rattle.std.proofs.lemmas.Bool.Decides.{nat_tests}
use Rattle.std.proofs.lemmas.List.Elements.{All-head, All-tail}
use Rattle.std.specs.List.{All}
use Rattle.cg_flat.specs.Around.{AreAround}
use Rattle.cg_flat.specs.declared.span.Hole.{Hole}
use Rattle.cg_flat.specs.Flat.{AreApart, has_place, holes_at, joined, with_hole}
use Rattle.cg_flat.proofs.Counts.{has_tells}
use Rattle.cg_flat.proofs.Rooms.{looser}

-- ---- one hole and the first of the others

abbrev pub Beside : Hole → Hole → Type 0
Beside x h = (h.start + h.count ≤ x.start) ⊎ (x.start + x.count ≤ h.start)

-- holes that start behind the end of those that were joined are around them
joined_around_at : (x h g : Hole) → 1 ≤ x.count → 1 ≤ h.count → 1 ≤ g.count → (h.start + h.count ≡ x.start) ⊎ (x.start + x.count ≡ h.start) → h.start + h.count + 1 ≤ g.start → Beside x g → Beside (joined x h) g
joined_around_at x h g one two three touch far out = grind arith

joined_has : (i : ℕ) (x h : Hole) → (h.start + h.count ≡ x.start) ⊎ (x.start + x.count ≡ h.start) → has_place i (joined x h).start (joined x h).count ≡ has_place i x.start x.count + has_place i h.start h.count
joined_has i x h touch = grind (arith, has_tells i (min x.start h.start) (x.count + h.count), has_tells i x.start x.count, has_tells i h.start h.count)

touches : (x h : Hole) → nat_lt (h.start + h.count) x.start ≡ false → nat_lt (x.start + x.count) h.start ≡ false → Beside x h → (h.start + h.count ≡ x.start) ⊎ (x.start + x.count ≡ h.start)
touches x h one two out = grind (arith, nat_tests)

below_true : (m n : ℕ) → nat_lt m n ≡ true → m + 1 ≤ n
below_true m n e = grind (arith, nat_tests)

-- each hole of a list starts from n on, and is at least one word long
abbrev pub AreFrom : ℕ → List Hole → Type 0
AreFrom n hs = All (λ g. (n ≤ g.start) × (1 ≤ g.count)) hs

pub from_apart : (n : ℕ) (hs : List Hole) → AreApart n hs → AreFrom n hs
from_apart n [] apart k d low = absurd (omega arith)
from_apart n (h ∷ hs) apart zero d low = (apart.0, apart.1)
from_apart n (h ∷ hs) apart (suc k) d low =
    let rest = from_apart (h.start + h.count + 1) hs apart.2 k d (omega arith) in
    let far : h.start + h.count + 1 ≤ (get_or hs k d).start = rest.0 in
    let first = apart.0 in
    (omega arith, rest.1)

joined_around : (x h : Hole) (hs : List Hole) → 1 ≤ x.count → 1 ≤ h.count → (h.start + h.count ≡ x.start) ⊎ (x.start + x.count ≡ h.start) → AreFrom (h.start + h.count + 1) hs → AreAround x hs → AreAround (joined x h) hs
joined_around x h hs one two touch far around k d low =
    let there = far k d low in
    joined_around_at x h (get_or hs k d) one two there.1 touch there.0 (around k d low)

-- ---- what a hole that was put in leaves

put_apart_by : (n : ℕ) (x h : Hole) (hs : List Hole) (b c : Bool) → nat_lt (h.start + h.count) x.start ≡ b → nat_lt (x.start + x.count) h.start ≡ c → n ≤ x.start → 1 ≤ x.count → AreApart n (h ∷ hs)
    → Beside x h
    → (b ≡ true → AreApart (h.start + h.count + 1) (with_hole x hs))
    → ((h.start + h.count ≡ x.start) ⊎ (x.start + x.count ≡ h.start) → AreApart n (with_hole (joined x h) hs))
    → AreApart n (cond b (h ∷ with_hole x hs) (cond c (x ∷ h ∷ hs) (with_hole (joined x h) hs)))
put_apart_by n x h hs true c e f low some apart out more touch = (apart.0, apart.1, more refl)
put_apart_by n x h hs false true e f low some apart out more touch = (low, some, (below_true (x.start + x.count) h.start f, apart.1, apart.2))
put_apart_by n x h hs false false e f low some apart out more touch = touch (touches x h e f out)

pub put_apart : (n : ℕ) (x : Hole) (hs : List Hole) → n ≤ x.start → 1 ≤ x.count → AreApart n hs → AreAround x hs → AreApart n (with_hole x hs)
put_apart n x [] low some apart around = (low, some, tt)
put_apart n x (h ∷ hs) low some apart around =
    put_apart_by n x h hs (nat_lt (h.start + h.count) x.start) (nat_lt (x.start + x.count) h.start) refl refl low some apart (All-head (Beside x) h hs around)
    (λ e. put_apart (h.start + h.count + 1) x hs (below_true (h.start + h.count) x.start e) some apart.2 (All-tail (Beside x) h hs around))
    (λ touch.
    put_apart n (joined x h) hs (omega arith) (omega arith) (looser n (h.start + h.count + 1) hs (omega arith) apart.2)
    (joined_around x h hs some apart.1 touch (from_apart (h.start + h.count + 1) hs apart.2) (All-tail (Beside x) h hs around)))

put_has_by : (i : ℕ) (x h : Hole) (hs : List Hole) (b c : Bool) → nat_lt (h.start + h.count) x.start ≡ b → nat_lt (x.start + x.count) h.start ≡ c → Beside x h
    → holes_at i (with_hole x hs) ≡ has_place i x.start x.count + holes_at i hs
    → ((h.start + h.count ≡ x.start) ⊎ (x.start + x.count ≡ h.start) → holes_at i (with_hole (joined x h) hs) ≡ has_place i (joined x h).start (joined x h).count + holes_at i hs)
    → holes_at i (cond b (h ∷ with_hole x hs) (cond c (x ∷ h ∷ hs) (with_hole (joined x h) hs))) ≡ has_place i x.start x.count + (has_place i h.start h.count + holes_at i hs)
put_has_by i x h hs true c e f out more touch = omega arith
put_has_by i x h hs false true e f out more touch = refl
put_has_by i x h hs false false e f out more touch =
    let at = touches x h e f out in
    let both = joined_has i x h at in
    touch at ∙ ap (λ n. n + holes_at i hs) both ∙ omega arith

-- a place is in the new hole, or in one of those before
pub put_has : (i n : ℕ) (x : Hole) (hs : List Hole) → 1 ≤ x.count → AreApart n hs → AreAround x hs → holes_at i (with_hole x hs) ≡ has_place i x.start x.count + holes_at i hs
put_has i n x [] some apart around = refl
put_has i n x (h ∷ hs) some apart around =
    put_has_by i x h hs (nat_lt (h.start + h.count) x.start) (nat_lt (x.start + x.count) h.start) refl refl (All-head (Beside x) h hs around)
    (put_has i (h.start + h.count + 1) x hs some apart.2 (All-tail (Beside x) h hs around))
    (λ touch. put_has i (h.start + h.count + 1) (joined x h) hs (omega arith) apart.2 (joined_around x h hs some apart.1 touch (from_apart (h.start + h.count + 1) hs apart.2) (All-tail (Beside x) h hs around)))
