-- In which order the faults of names stand (docs/LANGUAGE.md, "Names"): by place, and at one place by the number of the rule.
use Rattle.std.specs.Prelude.{◌≡◌, ℕ, ◌<◌, ◌⊎◌, List, [], ◌∷◌, ⊤}
use Rattle.std.specs.List.{All}
use Rattle.cg_base.specs.declared.place.Place.{Place}
use Rattle.cg_base.specs.Places.{IsBefore}
use Rattle.cg_resolve_def.specs.Faults.{NameFault, unknown, twice, arguments}

-- where a fault stands
abbrev pub place_of : NameFault → Place
place_of (unknown p) = p
place_of (twice p) = p
place_of (arguments p) = p

-- the number of its rule: N1, N2 or N4
abbrev pub number_of : NameFault → ℕ
number_of (unknown p) = 1
number_of (twice p) = 2
number_of (arguments p) = 4

-- a fault stands before another: at an earlier place, or at the same place by an earlier rule
abbrev pub Precedes : NameFault → NameFault → Type 0
Precedes f g = IsBefore (place_of f) (place_of g) ⊎ ((place_of f ≡ place_of g) × (number_of f < number_of g))

-- a fault stands before each of these
abbrev pub IsLeast : NameFault → List NameFault → Type 0
IsLeast f fs = All (Precedes f) fs

-- each fault stands before all later ones
abbrev pub AreOrdered : List NameFault → Type 0
AreOrdered [] = ⊤
AreOrdered (f ∷ later) = IsLeast f later × AreOrdered later

-- each place stands before all later ones
abbrev pub AreGrowing : List Place → Type 0
AreGrowing [] = ⊤
AreGrowing (p ∷ later) = All (IsBefore p) later × AreGrowing later
