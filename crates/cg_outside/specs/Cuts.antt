-- After how many bytes a call is torn.
use Rattle.std.specs.Prelude.{ℕ, List, [], ◌∷◌, Option, Some, None, nat_eq, if◌then◌else◌}

-- by the first entry of the call's number
abbrev pub first_cut : ℕ → List (ℕ × ℕ) → Option ℕ
first_cut call [] = None
first_cut call (cut ∷ cuts) = if nat_eq cut.0 call then Some cut.1 else first_cut call cuts
