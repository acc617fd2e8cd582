-- Derivations as plain trees, with no memory in them, and what a derivation of the program stands for.
use Rattle.std.specs.Prelude.{List, [], ◌∷◌}
use Rattle.cg_core.specs.declared.derivation.Mark.{Mark}
use Rattle.cg_core.specs.declared.derivation.Node.{Node}
use Rattle.cg_core.specs.declared.derivation.Deriv.{Deriv, Deriv-F, fold-Deriv}

mutual
  -- a derivation: its rule, the marks of each of its splits, and the derivations of its parts
  pub data Derivation : Type 0 where
    derivation : (node : Node) (marks : List (List Mark)) (parts : Derivations) → Derivation

  -- a list of derivations
  pub data Derivations : Type 0 where
    done : Derivations
    part : Derivation → Derivations → Derivations

-- the tree's own list, made of a list, and back
unfoldable pub to_derivations : List Derivation → Derivations
to_derivations [] = done
to_derivations (d ∷ ds) = part d (to_derivations ds)

unfoldable pub derivation_list : Derivations → List Derivation
derivation_list done = []
derivation_list (part d ds) = d ∷ derivation_list ds

-- one layer, with what its parts stand for
abbrev pub derivation_layer : Deriv-F Derivation → Derivation
derivation_layer d = derivation d.node d.marks (to_derivations d.parts)

-- the derivation that a value of the program stands for
abbrev pub derivation_of : Deriv → Derivation
derivation_of = fold-Deriv Derivation derivation_layer
