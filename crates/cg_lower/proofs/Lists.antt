-- What holds of each element of lists, and which elements lists have.
use Rattle.std.proofs.Common.{◌≡◌, ℕ, zero, suc, List, [], ◌∷◌, map, slice_get, Some, refl, ap, subst, arith}
use Rattle.std.specs.List.{AllByRecursion, Contains, flat_map}
use Rattle.cg_lower_laws.proofs.Typings.{all_back, all_front}

-- ---- what holds of each

-- of the element at a place
pub holds_at : {A : Type 0} (P : A → Type 0) (xs : List A) (k : ℕ) (x : A) → AllByRecursion P xs → slice_get xs k ≡ Some x → P x
holds_at P [] k x h e = absurd (cc)
holds_at P (y ∷ ys) zero x h e = let same : y ≡ x = cc in subst P same h.0
holds_at P (y ∷ ys) (suc k) x h e = holds_at P ys k x h.1 e

-- of what comes of an element
pub parts_hold : {A B : Type 0} (P : B → Type 0) (f : A → List B) (xs : List A) → AllByRecursion P (flat_map f xs) → AllByRecursion (λ x. AllByRecursion P (f x)) xs
parts_hold P f [] h = tt
parts_hold P f (x ∷ xs) h = (all_front P (f x) (flat_map f xs) h, parts_hold P f xs (all_back P (f x) (flat_map f xs) h))

pub part_holds : {A B : Type 0} (P : B → Type 0) (f : A → List B) (xs : List A) (k : ℕ) (x : A) → AllByRecursion P (flat_map f xs) → slice_get xs k ≡ Some x → AllByRecursion P (f x)
part_holds P f xs k x h e = holds_at (λ y. AllByRecursion P (f y)) xs k x (parts_hold P f xs h) e

-- of each under a function
pub mapped_hold : {A B : Type 0} (P : B → Type 0) (f : A → B) (xs : List A) → AllByRecursion P (map f xs) → AllByRecursion (λ x. P (f x)) xs
mapped_hold P f [] h = tt
mapped_hold P f (x ∷ xs) h = (h.0, mapped_hold P f xs h.1)

-- what follows of it
pub all_follow : {A : Type 0} (P Q : A → Type 0) → ((x : A) → P x → Q x) → (xs : List A) → AllByRecursion P xs → AllByRecursion Q xs
all_follow P Q f [] h = tt
all_follow P Q f (x ∷ xs) h = (f x h.0, all_follow P Q f xs h.1)

-- ---- elements

-- an element of a list is one of what a function makes of it
pub contains_mapped : {A B : Type 0} (f : A → B) (xs : List A) (x : A) → Contains xs x → Contains (map f xs) (f x)
contains_mapped f [] x (n, h, e) = absurd (omega (arith, h))
contains_mapped f (y ∷ ys) x (zero, h, e) = (zero, omega arith, ap f e)
contains_mapped f (y ∷ ys) x (suc n, h, e) = let c = contains_mapped f ys x (n, omega (arith, h), e) in (suc c.0, omega (arith, c.1), c.2)

-- and nothing else is
pub mapped_only : {A B : Type 0} (f : A → B) (P : B → Type 0) (xs : List A) (y : B) → ((x : A) → Contains xs x → P (f x)) → Contains (map f xs) y → P y
mapped_only f P [] y each (n, h, e) = absurd (omega (arith, h))
mapped_only f P (x ∷ xs) y each (zero, h, e) = subst P e (each x (0, omega arith, refl))
mapped_only f P (x ∷ xs) y each (suc n, h, e) = mapped_only f P xs y (λ z c. each z (suc c.0, omega (arith, c.1), c.2)) (n, omega (arith, h), e)
