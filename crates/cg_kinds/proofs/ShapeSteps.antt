-- Shapes at each list.
use Rattle.std.proofs.Common.{◌≡◌, List, [], ◌∷◌, map, refl, ap, false}
use Rattle.cg_base.specs.declared.ty.Part.{the_lemmas}
use Rattle.cg_base.specs.Types.{Tau, more, part, Piece, to_taus, to_parts}
use Rattle.cg_kinds.specs.Shapes.{shape, shape_all, shape_parts, shape_piece}

pub shape_list : (ts : List Tau) → shape_all (to_taus ts) ≡ to_taus (map shape ts)
unfolding shape to_taus
shape_list [] = refl
shape_list (t ∷ ts) = ap (more (shape t)) (shape_list ts)

pub shape_pieces : (ps : List Piece) → shape_parts (to_parts ps) ≡ to_parts (map shape_piece ps)
unfolding shape to_parts
shape_pieces [] = refl
shape_pieces (p ∷ ps) = ap (part p.name (shape p.ty) false) (shape_pieces ps)

pub ruleset shape_steps = (shape_list, shape_pieces, the_lemmas)
