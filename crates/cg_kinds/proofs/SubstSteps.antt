-- Substitution at each list.
use Rattle.std.proofs.Common.{◌≡◌, List, [], ◌∷◌, map, refl, ap}
use Rattle.cg_base.specs.declared.ty.Part.{the_lemmas}
use Rattle.cg_base.specs.Types.{Tau, more, part, Piece, to_taus, to_parts}
use Rattle.std.proofs.lemmas.Option.{slice_get-map}
use Rattle.cg_kinds.specs.Kinds.{subst, subst_all, subst_parts, subst_piece}

pub subst_list : (args ts : List Tau) → subst_all args (to_taus ts) ≡ to_taus (map (subst args) ts)
unfolding subst to_taus
subst_list args [] = refl
subst_list args (t ∷ ts) = ap (more (subst args t)) (subst_list args ts)

pub subst_pieces : (args : List Tau) (ps : List Piece) → subst_parts args (to_parts ps) ≡ to_parts (map (subst_piece args) ps)
unfolding subst to_parts
subst_pieces args [] = refl
subst_pieces args (p ∷ ps) = ap (part p.name (subst args p.ty) p.taken) (subst_pieces args ps)

pub ruleset subst_steps = (subst_list, subst_pieces, slice_get-map, the_lemmas)
