-- Scopes: a name that stands in one has a variable there, and a scope that goes on keeps its names.
use Rattle.std.proofs.Common.{◌≡◌, ℕ, ◌<◌, ◌≤◌, ◌||◌, Bool, true, false, cond, List, [], ◌∷◌, ◌++◌, length, Option, Some, None, ◌⊎◌, inl, inr, refl, sym, ap, subst as carry, arith}
use Rattle.std.proofs.lemmas.Bool.{or_right}
use Rattle.std.specs.List.{list_any}
use Rattle.std.specs.Str.{bytes_eq}
use Rattle.cg_resolve_def.specs.Declared.{is_among}
use Rattle.cg_resolve_def.specs.Terms.{Scope, has_name, named_remainder, variable}
use Rattle.cg_resolve_laws.proofs.Lists.{among_cases}

-- whether a name stands in a scope
abbrev pub stands_in : Scope → List ℕ → Bool
stands_in scope n = list_any (has_name n) scope

-- a variable's position is one of the context
pub variable_within : (scope : Scope) (n : List ℕ) (i : ℕ) → variable scope n ≡ Some i → i < length scope
variable_within [] n i is = absurd (cc)
variable_within (v ∷ outer) n i is = pick (has_name n v) is (variable_within outer n i)
  where
    pick : (b : Bool) → cond b (Some (length outer)) (variable outer n) ≡ Some i → (variable outer n ≡ Some i → i < length outer) → i < length (v ∷ outer)
    pick true found rest = let same : length outer ≡ i = cc in omega arith
    pick false found rest = omega (arith, rest found)

-- a name that stands in a scope is a variable of it
pub variable_there : (scope : Scope) (n : List ℕ) → stands_in scope n ≡ true → (i : ℕ) × (variable scope n ≡ Some i)
variable_there [] n there = absurd (cc)
variable_there (v ∷ outer) n there = pick (has_name n v) there (variable_there outer n)
  where
    pick : (b : Bool) → (b || stands_in outer n) ≡ true → (stands_in outer n ≡ true → (i : ℕ) × (variable outer n ≡ Some i)) → (i : ℕ) × (cond b (Some (length outer)) (variable outer n) ≡ Some i)
    pick true h rest = (length outer, refl)
    pick false h rest = rest h

-- a scope that is as long as another at least, and has its names
pub record Extends (scope longer : Scope) : Type 0 where
  pub long : length scope ≤ length longer
  pub kept : (n : List ℕ) → stands_in scope n ≡ true → stands_in longer n ≡ true

pub itself : (scope : Scope) → Extends scope scope
itself scope = record { long = omega arith; kept = λ n h. h }

pub further : (a b c : Scope) → Extends a b → Extends b c → Extends a c
further a b c first second = record { long = (let k = first.long in let l = second.long in omega arith); kept = λ n h. second.kept n (first.kept n h) }

pub with_entry : (v : Option (List ℕ)) (a b : Scope) → Extends a b → Extends a (v ∷ b)
with_entry v a b first = record { long = (let k = first.long in omega arith); kept = λ n h. or_right (has_name n v) (stands_in b n) (first.kept n h) }

-- an entry that no name stands for takes one
pub named_entry : (m : List ℕ) (outer : Scope) → Extends (None ∷ outer) (Some m ∷ outer)
named_entry m outer = record { long = omega arith; kept = λ n h. or_right (bytes_eq n m) (stands_in outer n) h }

-- with a name for its last remainder a scope is as long as before
pub remainder_length : (m : List ℕ) (scope : Scope) → length (named_remainder m scope) ≡ length scope
remainder_length m [] = refl
remainder_length m (v ∷ []) = refl
remainder_length m (v ∷ r ∷ outer) = refl

-- a scope in which the last remainder has no name
pub record HasRemainder (scope : Scope) : Type 0 where
  pub inner : Option (List ℕ)
  pub outer : Scope
  pub is : scope ≡ inner ∷ None ∷ outer

pub remainder_extends : (m : List ℕ) (scope : Scope) → HasRemainder scope → Extends scope (named_remainder m scope)
remainder_extends m scope r = carry (λ s. Extends s (named_remainder m s)) (sym r.is) (record { long = omega arith; kept = λ n h. named n (has_name n r.inner) h })
  where
    named : (n : List ℕ) (b : Bool) → (b || stands_in (None ∷ r.outer) n) ≡ true → (b || stands_in (Some m ∷ r.outer) n) ≡ true
    named n true h = refl
    named n false h = or_right (bytes_eq n m) (stands_in r.outer n) h

pub remainder_stands : (m n : List ℕ) (scope : Scope) → HasRemainder scope → bytes_eq n m ≡ true → stands_in (named_remainder m scope) n ≡ true
remainder_stands m n scope r same =
    carry (λ s. stands_in (named_remainder m s) n ≡ true) (sym r.is) (or_right (has_name n r.inner) (bytes_eq n m || stands_in r.outer n) (ap (λ b. b || stands_in r.outer n) same))

-- all these names stand in a scope
pub record Covers (scope : Scope) (names : List (List ℕ)) : Type 0 where
  pub at : (n : List ℕ) → is_among names n ≡ true → stands_in scope n ≡ true

pub covers_later : (scope longer : Scope) (names : List (List ℕ)) → Covers scope names → Extends scope longer → Covers longer names
covers_later scope longer names covers extends = record { at = λ n among. extends.kept n (covers.at n among) }

pub covers_both : (scope : Scope) (names others : List (List ℕ)) → Covers scope names → Covers scope others → Covers scope (names ++ others)
covers_both scope names others first second = record { at = λ n among. pick n (among_cases names others n among) }
  where
    pick : (n : List ℕ) → (is_among names n ≡ true) ⊎ (is_among others n ≡ true) → stands_in scope n ≡ true
    pick n (inl h) = first.at n h
    pick n (inr h) = second.at n h

pub covers_none : (scope : Scope) → Covers scope []
covers_none scope = record { at = λ n among. absurd (let no : false ≡ true = among in cc) }

-- the innermost entry's name stands in a scope
pub covers_first : (m : List ℕ) (scope : Scope) → Covers (Some m ∷ scope) (m ∷ [])
covers_first m scope = record { at = λ n among. pick n (bytes_eq n m) among }
  where
    pick : (n : List ℕ) (b : Bool) → (b || false) ≡ true → (b || stands_in scope n) ≡ true
    pick n true h = refl
    pick n false h = absurd (cc)
