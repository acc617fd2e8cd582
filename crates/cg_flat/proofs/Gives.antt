-- A hole that is put in by its place among the others.
use Rattle.std.proofs.Common.{rules, zero, suc, ◌≡◌, ℕ, ◌+◌, ◌-◌, ◌<◌, ◌≤◌, min, Bool, true, false, cond, nat_lt, ◌⊎◌, ⊎_elim, List, [], ◌∷◌, length, get_or, set, refl, sym, ap, ◌∙◌, arith, lt-ltb, le-ltb, ltb-true, ltb-false}
use Rattle.std.specs.List.{insert, remove}
use Rattle.std.specs.List.Sorted.{IsPartitionPoint, IsPartitionedBy}
use Rattle.cg_flat.specs.Around.{AreAround}
use Rattle.cg_flat.specs.declared.span.Hole.{Hole}
use Rattle.cg_flat.specs.Flat.{AreApart, joined, with_hole}
use Rattle.cg_flat.proofs.Gaps.{from_apart}

-- ---- the first of the others

passed : (x h : Hole) (hs : List Hole) → h.start + h.count < x.start → with_hole x (h ∷ hs) ≡ h ∷ with_hole x hs
passed x h hs low = ap (λ b. cond b (h ∷ with_hole x hs) (cond (nat_lt (x.start + x.count) h.start) (x ∷ h ∷ hs) (with_hole (joined x h) hs))) (lt-ltb (h.start + h.count) x.start low)

stopped : (x h : Hole) (hs : List Hole) → x.start ≤ h.start + h.count → with_hole x (h ∷ hs) ≡ cond (nat_lt (x.start + x.count) h.start) (x ∷ h ∷ hs) (with_hole (joined x h) hs)
stopped x h hs high = ap (λ b. cond b (h ∷ with_hole x hs) (cond (nat_lt (x.start + x.count) h.start) (x ∷ h ∷ hs) (with_hole (joined x h) hs))) (le-ltb (h.start + h.count) x.start high)

put_first : (x h : Hole) (hs : List Hole) → x.start ≤ h.start + h.count → x.start + x.count < h.start → with_hole x (h ∷ hs) ≡ x ∷ h ∷ hs
put_first x h hs high low = stopped x h hs high ∙ ap (λ b. cond b (x ∷ h ∷ hs) (with_hole (joined x h) hs)) (lt-ltb (x.start + x.count) h.start low)

joins : (x h : Hole) (hs : List Hole) → x.start ≤ h.start + h.count → h.start ≤ x.start + x.count → with_hole x (h ∷ hs) ≡ with_hole (joined x h) hs
joins x h hs high low = stopped x h hs high ∙ ap (λ b. cond b (x ∷ h ∷ hs) (with_hole (joined x h) hs)) (le-ltb (x.start + x.count) h.start low)

hole_is : (a b m n : ℕ) → a ≡ b → m ≡ n → ◌≡◌ {A = Hole} (record { start = a; count = m }) (record { start = b; count = n })
hole_is a b m n e f = λ i. record { start = e i; count = f i }

-- ---- by its place

pub neither : (x : Hole) (hs : List Hole) (i : ℕ) (d : Hole) → i ≤ length hs → ((k : ℕ) → k < i → (get_or hs k d).start + (get_or hs k d).count < x.start)
    → ((k : ℕ) → i ≤ k → k < length hs → x.start + x.count < (get_or hs k d).start) → with_hole x hs ≡ insert hs i x
neither x [] zero d le low high = refl
neither x [] (suc i) d le low high = absurd (omega arith)
neither x (h ∷ hs) zero d le low high = let first : x.start + x.count < h.start = high 0 (omega arith) (omega arith) in put_first x h hs (omega arith) first
neither x (h ∷ hs) (suc i) d le low high =
    let first : h.start + h.count < x.start = low 0 (omega arith) in
    passed x h hs first ∙ ap (λ l. h ∷ l) (neither x hs i d (omega arith) (λ k lt. low (suc k) (omega arith)) (λ k ge lt. high (suc k) (omega arith) (omega arith)))

alone : (x : Hole) (hs : List Hole) (d : Hole) → ((k : ℕ) → k < length hs → x.start + x.count < (get_or hs k d).start) → with_hole x hs ≡ x ∷ hs
alone x hs d high = neither x hs 0 d (omega arith) (λ k lt. absurd (omega arith)) (λ k ge lt. high k lt)

pub before_only : (x : Hole) (hs : List Hole) (j : ℕ) (d : Hole) → j < length hs → (get_or hs j d).start + (get_or hs j d).count ≡ x.start
    → ((k : ℕ) → k < j → (get_or hs k d).start + (get_or hs k d).count < x.start) → ((k : ℕ) → j < k → k < length hs → x.start + x.count < (get_or hs k d).start)
    → with_hole x hs ≡ set hs j (record { start = (get_or hs j d).start; count = (get_or hs j d).count + x.count })
before_only x [] j d lt touch low high = absurd (omega arith)
before_only x (h ∷ hs) zero d lt touch low high =
    let same : h.start + h.count ≡ x.start = touch in
    let start : min x.start h.start ≡ h.start = grind arith in
    let count : x.count + h.count ≡ h.count + x.count = omega arith in
    joins x h hs (omega arith) (omega arith)
    ∙ alone (joined x h) hs d (λ k below. let far : x.start + x.count < (get_or hs k d).start = high (suc k) (omega arith) (omega arith) in omega arith)
    ∙ ap (λ g. g ∷ hs) (hole_is (min x.start h.start) h.start (x.count + h.count) (h.count + x.count) start count)
before_only x (h ∷ hs) (suc j) d lt touch low high =
    let first : h.start + h.count < x.start = low 0 (omega arith) in
    passed x h hs first ∙ ap (λ l. h ∷ l) (before_only x hs j d (omega arith) touch (λ k below. low (suc k) (omega arith)) (λ k ge below. high (suc k) (omega arith) (omega arith)))

pub behind_only : (x : Hole) (hs : List Hole) (i : ℕ) (d : Hole) → i < length hs → (get_or hs i d).start ≡ x.start + x.count
    → ((k : ℕ) → k < i → (get_or hs k d).start + (get_or hs k d).count < x.start) → ((k : ℕ) → i < k → k < length hs → (get_or hs i d).start + (get_or hs i d).count < (get_or hs k d).start)
    → with_hole x hs ≡ set hs i (record { start = x.start; count = x.count + (get_or hs i d).count })
behind_only x [] i d lt touch low high = absurd (omega arith)
behind_only x (h ∷ hs) zero d lt touch low high =
    let same : h.start ≡ x.start + x.count = touch in
    let start : min x.start h.start ≡ x.start = grind arith in
    joins x h hs (omega arith) (omega arith)
    ∙ alone (joined x h) hs d (λ k below. let far : h.start + h.count < (get_or hs k d).start = high (suc k) (omega arith) (omega arith) in omega arith)
    ∙ ap (λ g. g ∷ hs) (hole_is (min x.start h.start) x.start (x.count + h.count) (x.count + h.count) start refl)
behind_only x (h ∷ hs) (suc i) d lt touch low high =
    let first : h.start + h.count < x.start = low 0 (omega arith) in
    passed x h hs first ∙ ap (λ l. h ∷ l) (behind_only x hs i d (omega arith) touch (λ k below. low (suc k) (omega arith)) (λ k ge below. high (suc k) (omega arith) (omega arith)))

pub both_sides : (x : Hole) (hs : List Hole) (j : ℕ) (d : Hole) → suc j < length hs → (get_or hs j d).start + (get_or hs j d).count ≡ x.start → (get_or hs (suc j) d).start ≡ x.start + x.count
    → ((k : ℕ) → k < j → (get_or hs k d).start + (get_or hs k d).count < x.start)
    → ((k : ℕ) → suc j < k → k < length hs → (get_or hs (suc j) d).start + (get_or hs (suc j) d).count < (get_or hs k d).start)
    → with_hole x hs ≡ set (remove hs (suc j)) j (record { start = (get_or hs j d).start; count = (get_or hs j d).count + x.count + (get_or hs (suc j) d).count })
both_sides x [] j d lt one two low high = absurd (omega arith)
both_sides x (h ∷ []) zero d lt one two low high = absurd (omega arith)
both_sides x (h ∷ g ∷ hs) zero d lt one two low high =
    let first : h.start + h.count ≡ x.start = one in
    let second : g.start ≡ x.start + x.count = two in
    let start : min (min x.start h.start) g.start ≡ h.start = grind arith in
    let count : x.count + h.count + g.count ≡ h.count + x.count + g.count = omega arith in
    joins x h (g ∷ hs) (omega arith) (omega arith)
    ∙ joins (joined x h) g hs (omega arith) (omega arith)
    ∙ alone (joined (joined x h) g) hs d (λ k below. let far : g.start + g.count < (get_or hs k d).start = high (suc (suc k)) (omega arith) (omega arith) in omega arith)
    ∙ ap (λ f. f ∷ hs) (hole_is (min (min x.start h.start) g.start) h.start (x.count + h.count + g.count) (h.count + x.count + g.count) start count)
both_sides x (h ∷ hs) (suc j) d lt one two low high =
    let first : h.start + h.count < x.start = low 0 (omega arith) in
    passed x h hs first ∙ ap (λ l. h ∷ l) (both_sides x hs j d (omega arith) one two (λ k below. low (suc k) (omega arith)) (λ k ge below. high (suc k) (omega arith) (omega arith)))

-- ---- what a search for the place tells

ordered : (n : ℕ) (hs : List Hole) → AreApart n hs → (k l : ℕ) (d : Hole) → k < l → l < length hs → (get_or hs k d).start + (get_or hs k d).count < (get_or hs l d).start
ordered n [] apart k l d less low = absurd (omega arith)
ordered n (h ∷ hs) apart k zero d less low = absurd (omega arith)
ordered n (h ∷ hs) apart zero (suc l) d less low = let there = from_apart (h.start + h.count + 1) hs apart.2 l d (omega arith) in let far : h.start + h.count + 1 ≤ (get_or hs l d).start = there.0 in omega arith
ordered n (h ∷ hs) apart (suc k) (suc l) d less low = ordered (h.start + h.count + 1) hs apart.2 k l d (omega arith) (omega arith)

-- holes in order are those that start before a place, and then the others
pub parted : (n place : ℕ) (hs : List Hole) → AreApart n hs → IsPartitionedBy (λ h. nat_lt h.start place) hs
parted n place hs apart i j d le low e =
    let there : (get_or hs j d).start < place = ltb-true (get_or hs j d).start place e in
    ⊎_elim (λ (same : i ≡ j). ap (λ k. nat_lt (get_or hs k d).start place) same ∙ e)
    (λ less. let far = ordered n hs apart i j d less low in lt-ltb (get_or hs i d).start place (omega arith)) (here i j le)
  where
    here : (i j : ℕ) → i ≤ j → (i ≡ j) ⊎ (i < j)
    here i j le = grind arith

module _ (x : Hole) (hs : List Hole) (i : ℕ) (some : 1 ≤ x.count) (apart : AreApart 0 hs) (around : AreAround x hs) (within : i ≤ length hs)
    (point : IsPartitionPoint (λ h. nat_lt h.start x.start ≡ true) (λ h. nat_lt h.start x.start ≡ false) hs i) where
  pub ends_low : (k : ℕ) (d : Hole) → k < i → (get_or hs k d).start + (get_or hs k d).count ≤ x.start
  ends_low k d low =
      let start : (get_or hs k d).start < x.start = ltb-true (get_or hs k d).start x.start (point.0 k d (omega arith) low) in
      ⊎_elim (λ clear. clear) (λ clear. absurd (omega arith)) (around k d (omega arith))

  pub starts_high : (k : ℕ) (d : Hole) → i ≤ k → k < length hs → x.start + x.count ≤ (get_or hs k d).start
  starts_high k d high low =
      let start : x.start ≤ (get_or hs k d).start = ltb-false (get_or hs k d).start x.start (point.1 k d high low) in
      let there = from_apart 0 hs apart k d low in
      let one : 1 ≤ (get_or hs k d).count = there.1 in
      ⊎_elim (λ clear. absurd (omega arith)) (λ clear. clear) (around k d low)

  pub far_low : (k : ℕ) (d : Hole) → k + 1 < i → (get_or hs k d).start + (get_or hs k d).count < x.start
  far_low k d low = let next = ends_low (k + 1) d low in let far = ordered 0 hs apart k (k + 1) d (omega arith) (omega arith) in omega arith

  pub far_high : (k : ℕ) (d : Hole) → i < k → k < length hs → x.start + x.count < (get_or hs k d).start
  far_high k d high low = let next = starts_high i d (omega arith) (omega arith) in let far = ordered 0 hs apart i k d high low in omega arith

  pub far_from : (k : ℕ) (d : Hole) → i < k → k < length hs → (get_or hs i d).start + (get_or hs i d).count < (get_or hs k d).start
  far_from k d high low = ordered 0 hs apart i k d high low

-- what stands before a place, where it touches
abbrev pub Before : Hole → List Hole → ℕ → Hole → Type 0
Before x hs i h = (1 ≤ i) × (h.start + h.count ≡ x.start) × ((d : Hole) → get_or hs (i - 1) d ≡ h)

abbrev pub Behind : Hole → List Hole → ℕ → Hole → Type 0
Behind x hs i h = (i < length hs) × (h.start ≡ x.start + x.count) × ((d : Hole) → get_or hs i d ≡ h)

abbrev pub NoneBefore : Hole → List Hole → ℕ → Type 0
NoneBefore x hs i = (d : Hole) → 1 ≤ i → (get_or hs (i - 1) d).start + (get_or hs (i - 1) d).count ≡ x.start → ⊥

abbrev pub NoneBehind : Hole → List Hole → ℕ → Type 0
NoneBehind x hs i = (d : Hole) → i < length hs → (get_or hs i d).start ≡ x.start + x.count → ⊥

less_or_last : (k i : ℕ) → k < i → (k + 1 < i) ⊎ (k ≡ i - 1)
less_or_last k i low = grind arith

same_or_more : (k i : ℕ) → i ≤ k → (k ≡ i) ⊎ (i < k)
same_or_more k i high = grind arith

module _ (x : Hole) (hs : List Hole) (i : ℕ) (some : 1 ≤ x.count) (apart : AreApart 0 hs) (around : AreAround x hs) (within : i ≤ length hs)
    (point : IsPartitionPoint (λ h. nat_lt h.start x.start ≡ true) (λ h. nat_lt h.start x.start ≡ false) hs i) where
  all_low : NoneBefore x hs i → (k : ℕ) → k < i → (get_or hs k x).start + (get_or hs k x).count < x.start
  all_low none k low =
      ⊎_elim (λ less. far_low x hs i some apart around within point k x less)
      (λ last.
      let ends = ends_low x hs i some apart around within point k x low in
      let apart' : (get_or hs k x).start + (get_or hs k x).count ≡ x.start → ⊥ = λ e. none x (omega arith) (ap (λ n. (get_or hs n x).start + (get_or hs n x).count) (sym last) ∙ e) in
      grind arith)
      (less_or_last k i low)

  all_high : NoneBehind x hs i → (k : ℕ) → i ≤ k → k < length hs → x.start + x.count < (get_or hs k x).start
  all_high none k high low =
      ⊎_elim (λ same.
      let starts = starts_high x hs i some apart around within point k x high low in
      let apart' : (get_or hs k x).start ≡ x.start + x.count → ⊥ = λ e. none x (omega arith) (ap (λ n. (get_or hs n x).start) (sym same) ∙ e) in
      grind arith)
      (λ more. far_high x hs i some apart around within point k x more low)
      (same_or_more k i high)

  pub gives_neither : NoneBefore x hs i → NoneBehind x hs i → insert hs i x ≡ with_hole x hs
  gives_neither before behind = sym (neither x hs i x within (all_low before) (all_high behind))

  pub gives_before : (h : Hole) → Before x hs i h → NoneBehind x hs i → set hs (i - 1) (record { start = h.start; count = h.count + x.count }) ≡ with_hole x hs
  gives_before h before behind =
      let first : 1 ≤ i = before.0 in
      let is : get_or hs (i - 1) x ≡ h = before.2 x in
      let touch : (get_or hs (i - 1) x).start + (get_or hs (i - 1) x).count ≡ x.start = ap (λ (g : Hole). g.start + g.count) is ∙ before.1 in
      sym (before_only x hs (i - 1) x (omega arith) touch (λ k low. far_low x hs i some apart around within point k x (omega arith)) (λ k high low. all_high behind k (omega arith) low)
      ∙ ap (λ (g : Hole). set hs (i - 1) (record { start = g.start; count = g.count + x.count })) is)

  pub gives_behind : (h : Hole) → NoneBefore x hs i → Behind x hs i h → set hs i (record { start = x.start; count = x.count + h.count }) ≡ with_hole x hs
  gives_behind h before behind =
      let is : get_or hs i x ≡ h = behind.2 x in
      let touch : (get_or hs i x).start ≡ x.start + x.count = ap (λ (g : Hole). g.start) is ∙ behind.1 in
      sym (behind_only x hs i x behind.0 touch (all_low before) (λ k high low. far_from x hs i some apart around within point k x high low)
      ∙ ap (λ (g : Hole). set hs i (record { start = x.start; count = x.count + g.count })) is)

both_at : (x : Hole) (hs : List Hole) (i : ℕ) (h g : Hole) → 1 ≤ x.count → AreApart 0 hs → AreAround x hs → i ≤ length hs
    → IsPartitionPoint (λ h. nat_lt h.start x.start ≡ true) (λ h. nat_lt h.start x.start ≡ false) hs i → Before x hs i h → Behind x hs i g → (j : ℕ) → i ≡ suc j
    → set (remove hs (suc j)) j (record { start = h.start; count = h.count + x.count + g.count }) ≡ with_hole x hs
both_at x hs i h g some apart around within point before behind j e =
    let last : i - 1 ≡ j = omega arith in
    let first : get_or hs j x ≡ h = ap (λ n. get_or hs n x) (sym last) ∙ before.2 x in
    let second : get_or hs (suc j) x ≡ g = ap (λ n. get_or hs n x) (sym e) ∙ behind.2 x in
    let low : i < length hs = behind.0 in
    let touch : (get_or hs j x).start + (get_or hs j x).count ≡ x.start = ap (λ (f : Hole). f.start + f.count) first ∙ before.1 in
    let next : (get_or hs (suc j) x).start ≡ x.start + x.count = ap (λ (f : Hole). f.start) second ∙ behind.1 in
    sym (both_sides x hs j x (omega arith) touch next (λ k less. far_low x hs i some apart around within point k x (omega arith)) (λ k high below. ordered 0 hs apart (suc j) k x high below)
    ∙ ap (λ (f : Hole). set (remove hs (suc j)) j (record { start = f.start; count = f.count + x.count + (get_or hs (suc j) x).count })) first
    ∙ ap (λ (f : Hole). set (remove hs (suc j)) j (record { start = h.start; count = h.count + x.count + f.count })) second)

before_is : (i : ℕ) → 1 ≤ i → i ≡ suc (i - 1)
before_is i some = omega arith

pub gives_both : (x : Hole) (hs : List Hole) (i : ℕ) (h g : Hole) → 1 ≤ x.count → AreApart 0 hs → AreAround x hs → i ≤ length hs
    → IsPartitionPoint (λ h. nat_lt h.start x.start ≡ true) (λ h. nat_lt h.start x.start ≡ false) hs i → Before x hs i h → Behind x hs i g
    → set (remove hs i) (i - 1) (record { start = h.start; count = h.count + x.count + g.count }) ≡ with_hole x hs
gives_both x hs i h g some apart around within point before behind =
    let same = before_is i before.0 in
    ap (λ n. set (remove hs n) (i - 1) (record { start = h.start; count = h.count + x.count + g.count })) same
    ∙ both_at x hs i h g some apart around within point before behind (i - 1) same

-- what was put in where there was room
pub was_put : (b : Bool) (ls xs ys : List Hole) → b ≡ true → ls ≡ cond b xs ys → ls ≡ xs
was_put true ls xs ys ok is = is
was_put false ls xs ys ok is = absurd (search (rules, ok))
