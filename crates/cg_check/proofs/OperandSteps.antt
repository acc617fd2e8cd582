-- Operands of an operator in their list.
use Rattle.std.proofs.Common.{◌≡◌, Bool, Option, None, List, [], ◌∷◌, length, map, refl}
use Rattle.cg_base.specs.declared.kind.Kinds.{Kinds}
use Rattle.cg_base.specs.declared.place.Place.{Place}
use Rattle.cg_base.specs.Types as types
use Rattle.cg_base.specs.Types.{Tau}
use Rattle.cg_check_def.specs.Pass.{check_shape, leaf}
use Rattle.cg_core.specs.declared.derivation.Node.TheVariants as nodes
use Rattle.cg_core.specs.declared.op.Op.{Op}
use Rattle.cg_core.specs.declared.term.Term.{Term}
use Rattle.cg_core.specs.Kernels.{Function, the_term}
use Rattle.cg_core.specs.Terms.{none, op, to_trees}

-- neither
pub other_operands : (functions : List Function) (vars : List Kinds) (p : List Tau) (before : List Bool) (direction : Option Tau) (place : Place) (o : Op) (ts : List (Term Place))
    → (length ts ≡ 1 → ⊥) → (length ts ≡ 2 → ⊥)
    → check_shape functions vars p before direction place (op o (to_trees (map the_term ts))) ≡ leaf (length p) None place types.unit (op o none) nodes.Op
unfolding to_trees
other_operands functions vars p before direction place o [] h k = refl
other_operands functions vars p before direction place o (x ∷ []) h k = absurd (h refl)
other_operands functions vars p before direction place o (x ∷ y ∷ []) h k = absurd (k refl)
other_operands functions vars p before direction place o (x ∷ y ∷ z ∷ ts) h k = refl
