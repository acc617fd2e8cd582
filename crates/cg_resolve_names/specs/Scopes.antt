-- Names that are in scope: a list in which none stands twice, and a set of the same names.
use Rattle.std.specs.Prelude.{◌≡◌, ℕ, List, [], ◌∷◌, false, ⊤}
use Rattle.std.specs.BTreeSet.{BTreeSet}
use Rattle.cg_resolve_def.specs.Declared.{is_among}
use Rattle.cg_resolve_declared.specs.Tables.{IsSetOf}
use denote.Ref.{Bor}

-- no name stands twice
abbrev pub AreApart : List (List ℕ) → Type 0
AreApart [] = ⊤
AreApart (n ∷ names) = (is_among names n ≡ false) × AreApart names

-- names that came into scope, and the set of them
pub record IsScope (names : List (List ℕ)) (set : BTreeSet (Bor (List ℕ))) : Type 0 where
  pub same : IsSetOf names set
  pub apart : AreApart names

-- two lists have the same names
abbrev pub SameNames : List (List ℕ) → List (List ℕ) → Type 0
SameNames names others = (n : List ℕ) → is_among names n ≡ is_among others n
