-- Fields without a fault, names among names, and names that are apart.
use Rattle.std.proofs.Common.{◌≡◌, ℕ, ◌||◌, Bool, true, false, cond, List, [], ◌∷◌, ◌++◌, ◌⊎◌, inl, inr, refl, ap, subst as carry}
use Rattle.std.proofs.lemmas.Bool.{or_right}
use Rattle.std.specs.Str.{bytes_eq}
use Rattle.cg_resolve_def.specs.Declared.{is_among}
use Rattle.cg_base.specs.Places.{is_at}
use Rattle.cg_core.specs.declared.at.At.{At}
use Rattle.cg_resolve_def.specs.Faults.{NameFault, again, arguments, field_with, twice, unknown}
use Rattle.cg_resolve_def.proofs.Faultless.{none_right}
use Rattle.cg_base.proofs.Sequences.{itself as same_name, is_name}

-- a field without a fault is new, and its value has none
pub field_none : (before : List (List ℕ)) (at : At) (faults : List NameFault) → field_with before at faults ≡ [] → (again before at.place at.name ≡ []) × (faults ≡ [])
field_none before at [] e = (e, refl)
field_none before at (unknown p ∷ later) e = absurd (pick (is_at p at.place) e)
  where
    pick : (b : Bool) → cond b (unknown p ∷ again before at.place at.name ++ later) (again before at.place at.name ++ unknown p ∷ later) ≡ [] → ⊥
    pick true h = cc
    pick false h = let no = none_right (again before at.place at.name) (unknown p ∷ later) h in cc
field_none before at (twice p ∷ later) e = absurd (let no = none_right (again before at.place at.name) (twice p ∷ later) e in cc)
field_none before at (arguments p ∷ later) e = absurd (let no = none_right (again before at.place at.name) (arguments p ∷ later) e in cc)

-- none of the names before is one of these
abbrev pub AreNew : List (List ℕ) → List (List ℕ) → Type 0
AreNew before names = (n : List ℕ) → is_among before n ≡ true → is_among names n ≡ false

-- the last of the names before, which stands twice nowhere, is put in front of these
pub one_new : (before : List (List ℕ)) (n : List ℕ) (names : List (List ℕ)) → is_among before n ≡ false → AreNew (n ∷ before) names → AreNew before (n ∷ names)
one_new before n names once new m among = pick (bytes_eq m n) refl
  where
    pick : (b : Bool) → bytes_eq m n ≡ b → (b || is_among names m) ≡ false
    pick true e = absurd (let same : is_among before n ≡ true = carry (λ x. is_among before x ≡ true) (is_name m n e) among in cc)
    pick false e = new m (or_right (bytes_eq m n) (is_among before m) among)

pub new_here : (before : List (List ℕ)) (n : List ℕ) (names : List (List ℕ)) → AreNew (n ∷ before) names → is_among names n ≡ false
new_here before n names new = new n (ap (λ b. b || is_among before n) (same_name n))

-- a name among two lists of them is among one
pub among_cases : (names others : List (List ℕ)) (n : List ℕ) → is_among (names ++ others) n ≡ true → (is_among names n ≡ true) ⊎ (is_among others n ≡ true)
among_cases [] others n e = inr e
among_cases (m ∷ names) others n e = pick (bytes_eq n m) e (among_cases names others n)
  where
    pick : (b : Bool) → (b || is_among (names ++ others) n) ≡ true → (is_among (names ++ others) n ≡ true → (is_among names n ≡ true) ⊎ (is_among others n ≡ true)) → ((b || is_among names n) ≡ true) ⊎ (is_among others n ≡ true)
    pick true h rest = inl refl
    pick false h rest = rest h

-- names among two lists of them
pub among_left : (names others : List (List ℕ)) (n : List ℕ) → is_among names n ≡ true → is_among (names ++ others) n ≡ true
among_left [] others n e = absurd (cc)
among_left (m ∷ names) others n e = pick (bytes_eq n m) e (among_left names others n)
  where
    pick : (b : Bool) → (b || is_among names n) ≡ true → (is_among names n ≡ true → is_among (names ++ others) n ≡ true) → (b || is_among (names ++ others) n) ≡ true
    pick true h rest = refl
    pick false h rest = rest h

pub among_right : (names others : List (List ℕ)) (n : List ℕ) → is_among others n ≡ true → is_among (names ++ others) n ≡ true
among_right [] others n e = e
among_right (m ∷ names) others n e = pick (bytes_eq n m) (among_right names others n e)
  where
    pick : (b : Bool) → is_among (names ++ others) n ≡ true → (b || is_among (names ++ others) n) ≡ true
    pick true h = refl
    pick false h = h
