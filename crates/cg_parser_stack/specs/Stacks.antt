-- A stack as a list, the innermost first.
use Rattle.std.specs.Prelude.{List, [], ◌∷◌, Bool, true, false}

-- whether nothing is open
abbrev pub none_open : {A : Type 0} → List A → Bool
none_open [] = true
none_open (x ∷ xs) = false
