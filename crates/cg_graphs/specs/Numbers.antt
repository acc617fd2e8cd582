-- Numbers of nodes that show which are on no circle.
use Rattle.std.specs.Prelude.{ℕ, ◌<◌, ◌≤◌, List, get_or}
use Rattle.std.specs.List.{All}

abbrev pub IsAtMost : List ℕ → ℕ → ℕ → Type 0
IsAtMost numbers number target = get_or numbers target 0 ≤ number

abbrev pub IsBelow : List ℕ → ℕ → ℕ → Type 0
IsBelow numbers number target = get_or numbers target 0 < number

-- none of the first n nodes mentions one with a higher number
abbrev pub StayOrFall : List (List ℕ) → List ℕ → ℕ → Type 0
StayOrFall edges numbers n = (i : ℕ) (d : List ℕ) → i < n → All (IsAtMost numbers (get_or numbers i 0)) (get_or edges i d)

-- each of the first n nodes mentions only nodes with lower numbers
abbrev pub Fall : List (List ℕ) → List ℕ → ℕ → Type 0
Fall edges numbers n = (i : ℕ) (d : List ℕ) → i < n → All (IsBelow numbers (get_or numbers i 0)) (get_or edges i d)
