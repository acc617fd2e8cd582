-- Of what was noted one by one, the first place is left.
use Rattle.std.proofs.Common.{◌≡◌, ℕ, zero, suc, Bool, true, false, cond, ◌⊎◌, List, [], ◌∷◌, ◌++◌, map, Option, Some, None, refl, sym, ap, ◌∙◌}
use Rattle.std.specs.Prelude.{slice_get}
use Rattle.cg_base.proofs.Options.{some_is}
use Rattle.cg_base.specs.declared.place.Place.{Place}
use Rattle.cg_heaptext_index.proofs.Those.{those_both, those_same}
use Rattle.cg_heaptext_places.proofs.Noting.{least_of, noted_both}
use Rattle.cg_heaptext_places.specs.Noted.{AreThose, IsLeast, noted, noted_all}
use Rattle.cg_heaptext_mentions.specs.Judged.{note, note_all}

module _ {A : Type 0} (test : A → Bool) (place : A → Place) where
  -- this is the place of a thing that passes
  pub record IsPicked (xs : List A) (p : Place) : Type 0 where
    pub i : ℕ
    pub item : A
    pub there : slice_get xs i ≡ Some item
    pub passes : test item ≡ true
    pub at : p ≡ place item

  abbrev pub picked : List A → List Place
  picked [] = []
  picked (x ∷ xs) = cond (test x) (place x ∷ picked xs) (picked xs)

  pub all_noted : (found : Option Place) (xs : List A) → note_all test place found xs ≡ noted_all found (picked xs)
  all_noted found [] = refl
  all_noted found (x ∷ xs) =
      elim (test x) as (λ b. note_all test place (cond b (noted found (place x)) found) xs ≡ noted_all found (cond b (place x ∷ picked xs) (picked xs))) [
        | true ↦ all_noted (noted found (place x)) xs
        | false ↦ all_noted found xs
      ]

  -- each that was picked
  later : (x : A) (xs : List A) (p : Place) → IsPicked xs p → IsPicked (x ∷ xs) p
  later x xs p r = record { i = suc r.i; item = r.item; there = r.there; passes = r.passes; at = r.at }

  first_or_later : (x : A) (xs : List A) → ((i : ℕ) (p : Place) → slice_get (picked xs) i ≡ Some p → IsPicked xs p)
      → (b : Bool) → test x ≡ b → (i : ℕ) (p : Place) → slice_get (cond b (place x ∷ picked xs) (picked xs)) i ≡ Some p → IsPicked (x ∷ xs) p
  first_or_later x xs rest true e zero p s = record { i = zero; item = x; there = refl; passes = e; at = sym (some_is (place x) p s) }
  first_or_later x xs rest true e (suc i) p s = later x xs p (rest i p s)
  first_or_later x xs rest false e i p s = later x xs p (rest i p s)

  each_picked : (xs : List A) (i : ℕ) (p : Place) → slice_get (picked xs) i ≡ Some p → IsPicked xs p
  each_picked [] i p s = absurd (cc)
  each_picked (x ∷ xs) i p s = first_or_later x xs (each_picked xs) (test x) refl i p s

  -- and where it is
  behind : (x : A) (xs : List A) (p : Place) (b : Bool) → (i : ℕ) × (slice_get (picked xs) i ≡ Some p) → (i : ℕ) × (slice_get (cond b (place x ∷ picked xs) (picked xs)) i ≡ Some p)
  behind x xs p true at = (suc at.0, at.1)
  behind x xs p false at = at

  picked_at : (xs : List A) (p : Place) (i : ℕ) (y : A) → slice_get xs i ≡ Some y → test y ≡ true → p ≡ place y → (j : ℕ) × (slice_get (picked xs) j ≡ Some p)
  picked_at [] p i y s e at = absurd (cc)
  picked_at (x ∷ xs) p zero y s e at =
      let is = some_is x y s in
      (zero, ap (λ b. slice_get (cond b (place x ∷ picked xs) (picked xs)) zero) (ap test is ∙ e) ∙ ap Some (ap place is ∙ sym at))
  picked_at (x ∷ xs) p (suc i) y s e at = behind x xs p (test x) (picked_at xs p i y s e at)

  pub those_picked : (xs : List A) → AreThose (IsPicked xs) (picked xs)
  those_picked xs = record { hold = each_picked xs; all = λ p r. picked_at xs p r.i r.item r.there r.passes r.at }

  -- the first of those that pass
  pub picked_least : (P : Place → Type 0) (xs : List A) (found : Option Place) → found ≡ note_all test place None xs → ((p : Place) → IsPicked xs p → P p) → ((p : Place) → P p → IsPicked xs p) → IsLeast P found
  picked_least P xs found is to from = least_of P found (picked xs) (is ∙ all_noted None xs) (those_same (IsPicked xs) P (picked xs) to from (those_picked xs))

-- what was made of things
pub note_map : {A B : Type 0} (f : A → B) (test : B → Bool) (place : B → Place) (found : Option Place) (xs : List A) → note_all test place found (map f xs) ≡ note_all (λ x. test (f x)) (λ x. place (f x)) found xs
note_map f test place found [] = refl
note_map f test place found (x ∷ xs) = note_map f test place (note test place found (f x)) xs

-- ---- two lists

-- the first of those of two lists that pass
pub both_least : {A B : Type 0} (test : A → Bool) (place : A → Place) (other_test : B → Bool) (other_place : B → Place) (P : Place → Type 0) (xs : List A) (ys : List B) (found : Option Place)
    → found ≡ note_all other_test other_place (note_all test place None xs) ys
    → ((p : Place) → IsPicked test place xs p ⊎ IsPicked other_test other_place ys p → P p) → ((p : Place) → P p → IsPicked test place xs p ⊎ IsPicked other_test other_place ys p) → IsLeast P found
both_least test place other_test other_place P xs ys found is to from =
    let ps = picked test place xs in
    let qs = picked other_test other_place ys in
    let noting : found ≡ noted_all None (ps ++ qs) =
    is ∙ ap (λ f. note_all other_test other_place f ys) (all_noted test place None xs) ∙ all_noted other_test other_place (noted_all None ps) ys ∙ sym (noted_both None ps qs) in
    least_of P found (ps ++ qs) noting
    (those_same (λ p. IsPicked test place xs p ⊎ IsPicked other_test other_place ys p) P (ps ++ qs) to from
    (those_both (IsPicked test place xs) (IsPicked other_test other_place ys) ps qs (those_picked test place xs) (those_picked other_test other_place ys)))
