-- What is present in a context and not touched: at the two sides of a split with the occurrence marks, behind new variables and
-- beside another branch.
use Rattle.std.proofs.Common.{◌≡◌, ℕ, zero, suc, ◌<◌, ◌≤◌, Bool, true, false, ◌&&◌, ◌||◌, not, cond, Option, Some, None, List, [], ◌∷◌, ◌++◌, length, ⊎_elim, refl, sym, ap, ◌∙◌, arith}
use Rattle.cg_base.specs.declared.place.Place.{Place}
use Rattle.cg_base.specs.Types.{Tau}
use Rattle.cg_core.specs.declared.derivation.Mark.TheVariants.{Right, Seen}
use Rattle.cg_typing.specs.Contexts.{Context, look, push, first_side, second_side, first, second}
use Rattle.cg_check_def.specs.NormalForm.{pick, marks}
use Rattle.cg_check_uses.specs.Marks.{mark_of, mark_seen, marks_of_uses, marks_seen, kept_beside, kept_seen, kept_new}
use Rattle.cg_check_uses.specs.Uses.{table, is_seen}
use Rattle.cg_check_uses.specs.declared.entry.Use.{Use}
use Rattle.cg_check_laws.proofs.Basics.{or_none, below_suc, look_first, look_second, length_push, look_old, look_new, mark_marks, length_marks}
use Rattle.cg_check_laws.proofs.Settle.{is_in, keep_by, in_append, in_beside, past_beside, in_seen, past_seen, in_new, apart_new}
use Rattle.cg_base.proofs.Truths.{either_false as none_or, or_true as or_right, or_left}
use Rattle.cg_typing.proofs.Lists.{first_as_many as length_first, second_as_many as length_second}

abbrev pub some : Option Tau → Bool
some None = false
some (Some t) = true

-- a context of n variables, in which everything touched is present; and the test of what is present and not touched
pub record Untouched (n : ℕ) (g : Context) (a k : ℕ → Bool) : Type 0 where
  pub long : length g ≡ n
  pub there : (i : ℕ) → i < n → a i ≡ true → some (look g i) ≡ true
  pub rest : (i : ℕ) → i < n → k i ≡ (some (look g i) && not (a i))
  pub past : (i : ℕ) → n ≤ i → k i ≡ false

pub same_touch : (n : ℕ) (g : Context) (a b k : ℕ → Bool) → ((i : ℕ) → b i ≡ a i) → Untouched n g a k → Untouched n g b k
same_touch n g a b k h u = record {
  long = u.long;
  there = λ i lt t. u.there i lt (sym (h i) ∙ t);
  rest = λ i lt. u.rest i lt ∙ ap (λ q. some (look g i) && not q) (sym (h i));
  past = u.past;
}

pub same_test : (n : ℕ) (g : Context) (a k l : ℕ → Bool) → ((i : ℕ) → l i ≡ k i) → Untouched n g a k → Untouched n g a l
same_test n g a k l h u = record { long = u.long; there = u.there; rest = λ i lt. h i ∙ u.rest i lt; past = λ i le. h i ∙ u.past i le }

-- ---- one entry

pick_is : (s a b : Bool) (o : Option Tau) → ((s || (a || b)) ≡ true → some o ≡ true)
    → pick s a b o ≡ cond (some o && not (s || (a || b))) Right (cond s Seen (mark_of a b))
pick_is true true true None h = absurd (let q = h refl in cc)
pick_is true true true (Some t) h = refl
pick_is true true false None h = absurd (let q = h refl in cc)
pick_is true true false (Some t) h = refl
pick_is true false true None h = absurd (let q = h refl in cc)
pick_is true false true (Some t) h = refl
pick_is true false false None h = absurd (let q = h refl in cc)
pick_is true false false (Some t) h = refl
pick_is false true true None h = absurd (let q = h refl in cc)
pick_is false true true (Some t) h = refl
pick_is false true false None h = absurd (let q = h refl in cc)
pick_is false true false (Some t) h = refl
pick_is false false true None h = absurd (let q = h refl in cc)
pick_is false false true (Some t) h = refl
pick_is false false false None h = refl
pick_is false false false (Some t) h = refl

side_one : (s a b : Bool) (o : Option Tau) → ((s || (a || b)) ≡ true → some o ≡ true) → some (first_side (pick s a b o) o) ≡ (s || a)
side_one true true true None h = absurd (let q = h refl in cc)
side_one true true true (Some t) h = refl
side_one true true false None h = absurd (let q = h refl in cc)
side_one true true false (Some t) h = refl
side_one true false true None h = absurd (let q = h refl in cc)
side_one true false true (Some t) h = refl
side_one true false false None h = absurd (let q = h refl in cc)
side_one true false false (Some t) h = refl
side_one false true true None h = absurd (let q = h refl in cc)
side_one false true true (Some t) h = refl
side_one false true false None h = absurd (let q = h refl in cc)
side_one false true false (Some t) h = refl
side_one false false true None h = absurd (let q = h refl in cc)
side_one false false true (Some t) h = refl
side_one false false false None h = refl
side_one false false false (Some t) h = refl

side_two : (s a b : Bool) (o : Option Tau) → ((s || (a || b)) ≡ true → some o ≡ true)
    → some (second_side (pick s a b o) o) ≡ ((s || b) || (some o && not (s || (a || b))))
side_two true true true None h = absurd (let q = h refl in cc)
side_two true true true (Some t) h = refl
side_two true true false None h = absurd (let q = h refl in cc)
side_two true true false (Some t) h = refl
side_two true false true None h = absurd (let q = h refl in cc)
side_two true false true (Some t) h = refl
side_two true false false None h = absurd (let q = h refl in cc)
side_two true false false (Some t) h = refl
side_two false true true None h = absurd (let q = h refl in cc)
side_two false true true (Some t) h = refl
side_two false true false None h = absurd (let q = h refl in cc)
side_two false true false (Some t) h = refl
side_two false false true None h = absurd (let q = h refl in cc)
side_two false false true (Some t) h = refl
side_two false false false None h = refl
side_two false false false (Some t) h = refl

rest_one : (s a : Bool) → (s && not a) ≡ ((s || a) && not a)
rest_one true a = refl
rest_one false true = refl
rest_one false false = refl

rest_two : (s a b t : Bool) → ((t && not (s || (a || b))) || (s && not b)) ≡ (((s || b) || (t && not (s || (a || b)))) && not b)
rest_two true true true true = refl
rest_two true true true false = refl
rest_two true true false true = refl
rest_two true true false false = refl
rest_two true false true true = refl
rest_two true false true false = refl
rest_two true false false true = refl
rest_two true false false false = refl
rest_two false true true true = refl
rest_two false true true false = refl
rest_two false true false true = refl
rest_two false true false false = refl
rest_two false false true true = refl
rest_two false false true false = refl
rest_two false false false true = refl
rest_two false false false false = refl

-- ---- the marks of a split

later : (n : ℕ) (o : Option Tau) (g : Context) (a k : ℕ → Bool) → Untouched (suc n) (o ∷ g) a k → Untouched n g (λ i. a (suc i)) (λ i. k (suc i))
later n o g a k u = let l = u.long in record {
  long = omega arith;
  there = λ i lt t. u.there (suc i) (omega arith) t;
  rest = λ i lt. u.rest (suc i) (omega arith);
  past = λ i le. u.past (suc i) (omega arith);
}

-- one mark, by what is observed and by whether it is
seen_mark : (w : Option Place) (s : Bool) (u v : Use) → is_seen w ≡ s → cond s Seen (mark_of u.touched v.touched) ≡ mark_seen w u v
seen_mark None true u v h = absurd (cc)
seen_mark None false u v h = refl
seen_mark (Some place) true u v h = refl
seen_mark (Some place) false u v h = absurd (cc)

pub marks_untouched : (n : ℕ) (g : Context) (w : ℕ → Option Place) (s : ℕ → Bool) (x y : ℕ → Use) (k : ℕ → Bool) → ((i : ℕ) → is_seen (w i) ≡ s i)
    → Untouched n g (λ i. s i || ((x i).touched || (y i).touched)) k
    → marks s (λ i. (x i).touched) (λ i. (y i).touched) g ≡ keep_by k (marks_seen (table n w) (table n x) (table n y))
marks_untouched zero [] w s x y k h u = refl
marks_untouched zero (o ∷ g) w s x y k h u = absurd (let l = u.long in omega (arith, l))
marks_untouched (suc n) [] w s x y k h u = absurd (let l = u.long in omega (arith, l))
marks_untouched (suc n) (o ∷ g) w s x y k h u =
    ap (λ m. m ∷ marks (λ i. s (suc i)) (λ i. (x (suc i)).touched) (λ i. (y (suc i)).touched) g)
    (pick_is (s 0) (x 0).touched (y 0).touched o (u.there 0 (omega arith))
    ∙ ap (λ q. cond q Right (cond (s 0) Seen (mark_of (x 0).touched (y 0).touched))) (sym (u.rest 0 (omega arith)))
    ∙ ap (cond (k 0) Right) (seen_mark (w 0) (s 0) (x 0) (y 0) (h 0)))
    ∙ ap (λ ms. cond (k 0) Right (mark_seen (w 0) (x 0) (y 0)) ∷ ms)
    (marks_untouched n g (λ i. w (suc i)) (λ i. s (suc i)) (λ i. x (suc i)) (λ i. y (suc i)) (λ i. k (suc i)) (λ i. h (suc i)) (later n o g _ k u))

none_seen : (n : ℕ) (x y : ℕ → Use) → marks_seen (table n (λ i. None)) (table n x) (table n y) ≡ marks_of_uses (table n x) (table n y)
none_seen zero x y = refl
none_seen (suc n) x y = ap (λ ms. mark_of (x 0).touched (y 0).touched ∷ ms) (none_seen n (λ i. x (suc i)) (λ i. y (suc i)))

-- where nothing is observed
pub plain_marks : (n : ℕ) (g : Context) (x y : ℕ → Use) (k : ℕ → Bool) → Untouched n g (λ i. (x i).touched || (y i).touched) k
    → marks (λ i. false) (λ i. (x i).touched) (λ i. (y i).touched) g ≡ keep_by k (marks_of_uses (table n x) (table n y))
plain_marks n g x y k u = marks_untouched n g (λ i. None) (λ i. false) x y k (λ i. refl) u ∙ ap (keep_by k) (none_seen n x y)

-- ---- the sides of a split

pub first_untouched : (n : ℕ) (g : Context) (s a b k l : ℕ → Bool) → Untouched n g (λ i. s i || (a i || b i)) k
    → ((i : ℕ) → i < n → l i ≡ (s i && not (a i))) → ((i : ℕ) → n ≤ i → l i ≡ false) → Untouched n (first (marks s a b g) g) a l
first_untouched n g s a b k l u h j =
    let m = marks s a b g in
    let is : (i : ℕ) → i < n → some (look (first m g) i) ≡ (s i || a i) =
    λ i lt. ap some (look_first m g i ∙ ap (λ m. first_side m (look g i)) (mark_marks s a b g i)) ∙ side_one (s i) (a i) (b i) (look g i) (u.there i lt) in
    record {
      long = length_first m g (length_marks s a b g) ∙ u.long;
      there = λ i lt t. is i lt ∙ or_right (s i) (a i) t;
      rest = λ i lt. h i lt ∙ rest_one (s i) (a i) ∙ ap (λ q. q && not (a i)) (sym (is i lt));
      past = j;
    }

pub second_untouched : (n : ℕ) (g : Context) (s a b k l : ℕ → Bool) → Untouched n g (λ i. s i || (a i || b i)) k
    → ((i : ℕ) → i < n → l i ≡ (k i || (s i && not (b i)))) → ((i : ℕ) → n ≤ i → l i ≡ false) → Untouched n (second (marks s a b g) g) b l
second_untouched n g s a b k l u h j =
    let m = marks s a b g in
    let is : (i : ℕ) → i < n → some (look (second m g) i) ≡ ((s i || b i) || (some (look g i) && not (s i || (a i || b i)))) =
    λ i lt. ap some (look_second m g i ∙ ap (λ m. second_side m (look g i)) (mark_marks s a b g i)) ∙ side_two (s i) (a i) (b i) (look g i) (u.there i lt) in
    record {
      long = length_second m g (length_marks s a b g) ∙ u.long;
      there = λ i lt t. is i lt ∙ or_left (s i || b i) (some (look g i) && not (s i || (a i || b i))) (or_right (s i) (b i) t);
      rest = λ i lt. h i lt ∙ ap (λ q. q || (s i && not (b i))) (u.rest i lt) ∙ rest_two (s i) (a i) (b i) (some (look g i)) ∙ ap (λ q. q && not (b i)) (sym (is i lt));
      past = j;
    }

-- where nothing is observed
pub plain_first : (n : ℕ) (g : Context) (a b k : ℕ → Bool) → Untouched n g (λ i. a i || b i) k → Untouched n (first (marks (λ i. false) a b g) g) a (λ i. false)
plain_first n g a b k u = first_untouched n g (λ i. false) a b k (λ i. false) u (λ i lt. refl) (λ i le. refl)

pub plain_second : (n : ℕ) (g : Context) (a b k : ℕ → Bool) → Untouched n g (λ i. a i || b i) k → Untouched n (second (marks (λ i. false) a b g) g) b k
plain_second n g a b k u = second_untouched n g (λ i. false) a b k k u (λ i lt. sym (or_none (k i))) u.past

-- the observers that a part doesn't touch
pub seen_first : (n : ℕ) (g : Context) (w : ℕ → Option Place) (s : ℕ → Bool) (x : ℕ → Use) (b k : ℕ → Bool) → ((i : ℕ) → is_seen (w i) ≡ s i)
    → Untouched n g (λ i. s i || ((x i).touched || b i)) k
    → Untouched n (first (marks s (λ i. (x i).touched) b g) g) (λ i. (x i).touched) (is_in (kept_seen (table n w) (table n x)))
seen_first n g w s x b k h u =
    first_untouched n g s (λ i. (x i).touched) b k (is_in (kept_seen (table n w) (table n x))) u
    (λ i lt. in_seen n w x i lt ∙ ap (λ q. q && not (x i).touched) (h i)) (past_seen n w x)

pub seen_second : (n : ℕ) (g : Context) (w : ℕ → Option Place) (s a : ℕ → Bool) (y : ℕ → Use) (k : ℕ → Bool) → ((i : ℕ) → is_seen (w i) ≡ s i)
    → Untouched n g (λ i. s i || (a i || (y i).touched)) k
    → Untouched n (second (marks s a (λ i. (y i).touched) g) g) (λ i. (y i).touched) (λ i. k i || is_in (kept_seen (table n w) (table n y)) i)
seen_second n g w s a y k h u =
    second_untouched n g s a (λ i. (y i).touched) k (λ i. k i || is_in (kept_seen (table n w) (table n y)) i) u
    (λ i lt. ap (λ q. k i || q) (in_seen n w y i lt ∙ ap (λ q. q && not (y i).touched) (h i)))
    (λ i le. none_or (k i) _ (u.past i le) (past_seen n w y i le))

-- ---- branches

beside_bools : (t x y : Bool) → ((x || y) ≡ true → t ≡ true) → ((t && not (x || y)) || (not x && y)) ≡ (t && not x)
beside_bools true true y h = refl
beside_bools true false true h = refl
beside_bools true false false h = refl
beside_bools false true y h = absurd (let q = h refl in cc)
beside_bools false false true h = absurd (let q = h refl in cc)
beside_bools false false false h = refl

-- what the other branch touches
pub beside_untouched : (n : ℕ) (g : Context) (x y : ℕ → Use) (k : ℕ → Bool) → Untouched n g (λ i. (x i).touched || (y i).touched) k
    → Untouched n g (λ i. (x i).touched) (λ i. k i || is_in (kept_beside (table n x) (table n y)) i)
beside_untouched n g x y k u = record {
  long = u.long;
  there = λ i lt t. u.there i lt (or_left (x i).touched (y i).touched t);
  rest = λ i lt. ap (λ q. k i || q) (in_beside n x y i lt) ∙ ap (λ q. q || (not (x i).touched && (y i).touched)) (u.rest i lt)
      ∙ beside_bools (some (look g i)) (x i).touched (y i).touched (u.there i lt);
  past = λ i le. none_or (k i) _ (u.past i le) (past_beside n x y i le);
}

or_swapped : (x y : Bool) → (x || y) ≡ (y || x)
or_swapped true true = refl
or_swapped true false = refl
or_swapped false true = refl
or_swapped false false = refl

pub swapped : (n : ℕ) (g : Context) (a b k : ℕ → Bool) → Untouched n g (λ i. a i || b i) k → Untouched n g (λ i. b i || a i) k
swapped n g a b k u = same_touch n g _ _ k (λ i. or_swapped (b i) (a i)) u

-- ---- a new variable

pub push_untouched : (n : ℕ) (g : Context) (t : Tau) (a k : ℕ → Bool) (new : Use) → new.touched ≡ a n → Untouched n g a k
    → Untouched (suc n) (push g (Some t)) a (λ i. k i || is_in (kept_new n new) i)
push_untouched n g t a k new h u = let l = u.long in record {
  long = length_push g (Some t) ∙ ap suc u.long;
  there = λ i lt q. ⊎_elim
      (λ b. ap some (look_old g (Some t) i (omega arith)) ∙ u.there i b q)
      (λ e. ap some (look_new g (Some t) i (omega arith)))
      (below_suc i n lt);
  rest = λ i lt. ⊎_elim
      (λ b. ap (λ q. k i || q) (apart_new n new i (omega arith)) ∙ or_none (k i) ∙ u.rest i b ∙ ap (λ o. some o && not (a i)) (sym (look_old g (Some t) i (omega arith))))
      (λ e. ap (λ q. q || is_in (kept_new n new) i) (u.past i (omega arith)) ∙ ap (is_in (kept_new n new)) e ∙ in_new n new ∙ ap not (h ∙ ap a (sym e))
      ∙ ap (λ o. some o && not (a i)) (sym (look_new g (Some t) i (omega arith))))
      (below_suc i n lt);
  past = λ i le. none_or (k i) _ (u.past i (omega arith)) (apart_new n new i (omega arith));
}

or_later : (x y z : Bool) → (x || (y || z)) ≡ ((x || y) || z)
or_later true y z = refl
or_later false y z = refl

-- two lists put in, one after the other
pub joined_test : (n : ℕ) (g : Context) (a k : ℕ → Bool) (xs ys : List ℕ) → Untouched n g a (λ i. (k i || is_in xs i) || is_in ys i) → Untouched n g a (λ i. k i || is_in (xs ++ ys) i)
joined_test n g a k xs ys u = same_test n g a _ _ (λ i. ap (λ q. k i || q) (in_append xs ys i) ∙ or_later (k i) (is_in xs i) (is_in ys i)) u
