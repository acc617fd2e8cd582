-- Bang at each list.
use Rattle.std.proofs.Common.{◌≡◌, List, [], ◌∷◌, map, refl, ap}
use Rattle.cg_base.specs.declared.ty.Part.{the_lemmas}
use Rattle.cg_base.specs.Types.{Tau, more, part, Piece, to_taus, to_parts}
use Rattle.cg_kinds.specs.Kinds.{bang, bang_all, bang_parts, bang_piece}

pub bang_list : (ts : List Tau) → bang_all (to_taus ts) ≡ to_taus (map bang ts)
unfolding bang to_taus
bang_list [] = refl
bang_list (t ∷ ts) = ap (more (bang t)) (bang_list ts)

pub bang_pieces : (ps : List Piece) → bang_parts (to_parts ps) ≡ to_parts (map bang_piece ps)
unfolding bang to_parts
bang_pieces [] = refl
bang_pieces (p ∷ ps) = ap (part p.name (bang p.ty) p.taken) (bang_pieces ps)

pub ruleset bang_steps = (bang_list, bang_pieces, the_lemmas)
