-- The names of parts stay what they are: where parts are observed, have arguments for their variables, or have fields taken.
use Rattle.std.proofs.Common.{◌≡◌, ℕ, List, [], ◌∷◌, map, refl, ap}
use Rattle.cg_base.specs.Types.{Tau, Parts, end, part, Piece, to_parts}
use Rattle.cg_kinds.specs.Kinds.{bang, bang_parts, subst, subst_parts}
use Rattle.cg_core_def.specs.Lawful.{part_names}
use Rattle.cg_resolve_def.specs.Expand.{all_taken, taken_parts}

pub bang_names : (ps : Parts) → part_names (bang_parts ps) ≡ part_names ps
unfolding bang
bang_names end = refl
bang_names (part n t taken ps) = ap (λ l. n ∷ l) (bang_names ps)

pub subst_names : (args : List Tau) (ps : Parts) → part_names (subst_parts args ps) ≡ part_names ps
unfolding subst
subst_names args end = refl
subst_names args (part n t taken ps) = ap (λ l. n ∷ l) (subst_names args ps)

pub taken_names : (names : List (List ℕ)) (ps : Parts) → part_names (taken_parts names ps) ≡ part_names ps
taken_names names end = refl
taken_names names (part n t taken ps) = ap (λ l. n ∷ l) (taken_names names ps)

pub all_names : (ps : Parts) → part_names (all_taken ps) ≡ part_names ps
all_names end = refl
all_names (part n t taken ps) = ap (λ l. n ∷ l) (all_names ps)

pub piece_names : (ps : List Piece) → part_names (to_parts ps) ≡ map (λ p. p.name) ps
unfolding to_parts
piece_names [] = refl
piece_names (p ∷ ps) = ap (λ l. p.name ∷ l) (piece_names ps)
