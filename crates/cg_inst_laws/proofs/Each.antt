-- A fact on each element of a list.
use Rattle.std.proofs.Common.{◌≡◌, ℕ, zero, suc, Some, List, [], ◌∷◌, ◌++◌, refl, subst}
use Rattle.std.proofs.lemmas.Option.{slice_get-get_or}
use Rattle.std.specs.List.{All}
use Rattle.std.specs.Prelude.{get_or, slice_get}

-- P holds of each
abbrev pub Each : {A : Type 0} → (A → Type 0) → List A → Type 0
Each P [] = Unit {0}
Each P (x ∷ xs) = P x × Each P xs

-- of two lists, one behind the other
pub each_both : {A : Type 0} (P : A → Type 0) (xs ys : List A) → Each P xs → Each P ys → Each P (xs ++ ys)
each_both P [] ys h k = k
each_both P (x ∷ xs) ys h k = (h.0, each_both P xs ys h.1 k)

-- and back
pub each_left : {A : Type 0} (P : A → Type 0) (xs ys : List A) → Each P (xs ++ ys) → Each P xs
each_left P [] ys h = tt
each_left P (x ∷ xs) ys h = (h.0, each_left P xs ys h.1)

pub each_right : {A : Type 0} (P : A → Type 0) (xs ys : List A) → Each P (xs ++ ys) → Each P ys
each_right P [] ys h = h
each_right P (x ∷ xs) ys h = each_right P xs ys h.1

-- of three
pub each_three : {A : Type 0} (P : A → Type 0) (xs ys zs : List A) → Each P xs → Each P ys → Each P zs → Each P (xs ++ ys ++ zs)
each_three P xs ys zs h k l = each_both P (xs ++ ys) zs (each_both P xs ys h k) l

-- what follows from it holds of each too
pub each_then : {A : Type 0} (P Q : A → Type 0) (xs : List A) → ((x : A) → P x → Q x) → Each P xs → Each Q xs
each_then P Q [] f h = tt
each_then P Q (x ∷ xs) f h = (f x h.0, each_then P Q xs f h.1)

-- two facts on each
pub each_join : {A : Type 0} (P Q R : A → Type 0) (xs : List A) → ((x : A) → P x → Q x → R x) → Each P xs → Each Q xs → Each R xs
each_join P Q R [] f h k = tt
each_join P Q R (x ∷ xs) f h k = (f x h.0 k.0, each_join P Q R xs f h.1 k.1)

-- by positions, and back
pub each_at : {A : Type 0} (P : A → Type 0) (xs : List A) (i : ℕ) (x : A) → Each P xs → slice_get xs i ≡ Some x → P x
each_at P [] i x h e = absurd (cc)
each_at P (y ∷ ys) zero x h e = let q : y ≡ x = cc in subst P q h.0
each_at P (y ∷ ys) (suc i) x h e = each_at P ys i x h.1 e

pub each_from : {A : Type 0} (P : A → Type 0) (xs : List A) → ((i : ℕ) (x : A) → slice_get xs i ≡ Some x → P x) → Each P xs
each_from P [] f = tt
each_from P (x ∷ xs) f = (f zero x refl, each_from P xs (λ i y e. f (suc i) y e))

-- in std's words
pub each_all : {A : Type 0} (P : A → Type 0) (xs : List A) → Each P xs → All P xs
each_all P xs h i d within = each_at P xs i (get_or xs i d) h (slice_get-get_or xs i d within)
