-- A fact on each element of a list.
use Rattle.std.proofs.Common.{◌≡◌, Bool, true, false, Some, List, [], ◌∷◌, ◌++◌, length, slice_get, if◌then◌else◌, refl, ap}

-- P holds of each
abbrev pub Each : {A : Type 0} → (A → Type 0) → List A → Type 0
Each P [] = Unit {0}
Each P (x ∷ xs) = P x × Each P xs

module _ {A : Type 0} (P : A → Type 0) where
  -- of two lists, one behind the other
  pub each_both : (xs ys : List A) → Each P xs → Each P ys → Each P (xs ++ ys)
  each_both [] ys h k = k
  each_both (x ∷ xs) ys h k = (h.0, each_both xs ys h.1 k)

  -- and back
  pub each_left : (xs ys : List A) → Each P (xs ++ ys) → Each P xs
  each_left [] ys h = tt
  each_left (x ∷ xs) ys h = (h.0, each_left xs ys h.1)

  pub each_right : (xs ys : List A) → Each P (xs ++ ys) → Each P ys
  each_right [] ys h = h
  each_right (x ∷ xs) ys h = each_right xs ys h.1

  -- by what stands before an element and behind it
  pub each_from : (xs : List A) → ((front rest : List A) (x : A) → xs ≡ front ++ x ∷ rest → P x) → Each P xs
  each_from [] f = tt
  each_from (x ∷ xs) f = (f [] xs x refl, each_from xs (λ front rest y e. f (x ∷ front) rest y (ap (λ ys. x ∷ ys) e)))

  -- and back
  pub each_at : (front rest : List A) (x : A) → Each P (front ++ x ∷ rest) → P x
  each_at [] rest x h = h.0
  each_at (y ∷ front) rest x h = each_at front rest x h.1

  -- where one of two lists is ruled out, the other is there
  pub each_true : (b : Bool) (xs ys : List A) → (Each P ys → ⊥) → Each P (if b then xs else ys) → (b ≡ true) × Each P xs
  each_true true xs ys never h = (refl, h)
  each_true false xs ys never h = absurd (never h)

  pub each_false : (b : Bool) (xs ys : List A) → (Each P xs → ⊥) → Each P (if b then xs else ys) → (b ≡ false) × Each P ys
  each_false true xs ys never h = absurd (never h)
  each_false false xs ys never h = (refl, h)

  -- of whichever is there
  pub each_if : (b : Bool) (xs ys : List A) → Each P xs → Each P ys → Each P (if b then xs else ys)
  each_if true xs ys h k = h
  each_if false xs ys h k = k

module _ {A : Type 0} (P Q : A → Type 0) where
  -- what follows from it holds of each too
  pub each_then : (xs : List A) → ((x : A) → P x → Q x) → Each P xs → Each Q xs
  each_then [] f h = tt
  each_then (x ∷ xs) f h = (f x h.0, each_then xs f h.1)

  -- one fact from another, of whichever is there
  pub if_then : (b : Bool) (xs ys : List A) → (Each P xs → Each Q xs) → (Each P ys → Each Q ys) → Each P (if b then xs else ys) → Each Q (if b then xs else ys)
  if_then true xs ys f g h = f h
  if_then false xs ys f g h = g h

-- the element behind those before it
pub stands_there : {A : Type 0} (front rest : List A) (x : A) → slice_get (front ++ x ∷ rest) (length front) ≡ Some x
stands_there [] rest x = refl
stands_there (y ∷ front) rest x = stands_there front rest x
