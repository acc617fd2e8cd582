-- Where parts stand.
use Rattle.std.proofs.Common.{◌≡◌, ℕ, zero, suc, List, [], ◌∷◌, Some, None, map, refl, ap, ◌∙◌}
use Rattle.std.specs.Prelude.{slice_get}
use Rattle.cg_base.specs.declared.ty.Part.{Part}
use Rattle.cg_base.specs.declared.ty.Ty.{the_lemmas as type_lemmas}
use Rattle.cg_base.proofs.Views.{piece_of}
use Rattle.cg_base.specs.Types.{part_of, to_parts, type_of, unit}
use Rattle.cg_update.specs.Machines.{type_of_part}
use Rattle.cg_eval_operations.proofs.PartSteps.{past_all, is_there, is_later}

-- ---- positions

-- ---- fields

pub type_there : (ps : List Part) (i : ℕ) (p : Part) → slice_get ps i ≡ Some p → type_of_part i (to_parts (map part_of ps)) ≡ type_of p.ty
unfolding type_of_part to_parts
type_there [] i p e = absurd (cc)
type_there (q ∷ ps) zero p e = let s : q ≡ p = cc in ap (λ r. r.ty) (piece_of q) ∙ ap (λ r. type_of r.ty) s
type_there (q ∷ ps) (suc i) p e = type_there ps i p e

pub type_past : (ps : List Part) (i : ℕ) → slice_get ps i ≡ None → type_of_part i (to_parts (map part_of ps)) ≡ unit
unfolding type_of_part to_parts
type_past [] i e = refl
type_past (q ∷ ps) zero e = absurd (cc)
type_past (q ∷ ps) (suc i) e = type_past ps i e

pub ruleset part_steps = (past_all, is_there, is_later, type_there, type_past, type_lemmas)
