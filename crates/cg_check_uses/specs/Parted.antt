-- Derivations of parts as lists.
use Rattle.std.specs.Prelude.{ℕ, zero, suc, List, [], ◌∷◌}
use Rattle.cg_core.specs.Derivations.{Derivation}
use Rattle.cg_check_uses.specs.Marks.{settle}

-- variables are put into all but the first n
abbrev pub settled_from : List ℕ → ℕ → List Derivation → List Derivation
settled_from kept n [] = []
settled_from kept zero (d ∷ ds) = settle kept d ∷ settled_from kept zero ds
settled_from kept (suc n) (d ∷ ds) = d ∷ settled_from kept n ds
