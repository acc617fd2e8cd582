-- What is without a fault of names: so are its parts, and a name that isn't twice is among none before it.
use Rattle.std.proofs.Common.{◌≡◌, ℕ, Bool, true, false, cond, List, [], ◌∷◌, ◌++◌, refl}
use Rattle.cg_base.specs.declared.place.Place.{Place}
use Rattle.cg_surface.specs.Programs.{Entry}
use Rattle.cg_resolve_def.specs.Declared.{is_among}
use Rattle.cg_resolve_def.specs.Faults.{Before, again, declared_with, entry_faults, faults_from, twice}

-- two lists that are nothing together
pub none_left : {A : Type 0} (xs ys : List A) → xs ++ ys ≡ [] → xs ≡ []
none_left [] ys e = refl
none_left (x ∷ xs) ys e = absurd (cc)

pub none_right : {A : Type 0} (xs ys : List A) → xs ++ ys ≡ [] → ys ≡ []
none_right [] ys e = e
none_right (x ∷ xs) ys e = absurd (cc)

-- a name that isn't twice is among none before it
pub not_again : (before : List (List ℕ)) (p : Place) (n : List ℕ) → again before p n ≡ [] → is_among before n ≡ false
not_again before p n none = pick (is_among before n) none
  where
    pick : (b : Bool) → cond b (twice p ∷ []) [] ≡ [] → b ≡ false
    pick true e = absurd (cc)
    pick false e = refl

-- what is without a fault behind an item
pub behind : (entries : List Entry) (before : Before) (e : Entry) (es : List Entry) → faults_from entries before (e ∷ es) ≡ [] → faults_from entries (declared_with before e) es ≡ []
behind entries before e es none = none_right (entry_faults entries before e) (faults_from entries (declared_with before e) es) none
