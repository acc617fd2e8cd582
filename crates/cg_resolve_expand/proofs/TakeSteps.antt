-- Fields that are taken, at each list.
use Rattle.std.proofs.Common.{◌≡◌, ℕ, ◌||◌, true, List, [], ◌∷◌, map, refl, ap}
use Rattle.std.proofs.Math.Bool.{or-false, or-true}
use Rattle.cg_base.proofs.Views.{piece_of}
use Rattle.cg_base.specs.declared.ty.Part.{the_lemmas}
use Rattle.cg_base.specs.Types.{part, Piece, to_parts}
use Rattle.cg_resolve_def.specs.Declared.{is_among}
use Rattle.cg_resolve_def.specs.Expand.{taken_parts, all_taken}
use Rattle.cg_resolve_expand.specs.Taken.{taken_piece, all_taken_piece}

pub taken_pieces : (names : List (List ℕ)) (ps : List Piece) → taken_parts names (to_parts ps) ≡ to_parts (map (taken_piece names) ps)
unfolding to_parts
taken_pieces names [] = refl
taken_pieces names (p ∷ ps) = ap (part p.name p.ty (p.taken || is_among names p.name)) (taken_pieces names ps)

pub all_taken_pieces : (ps : List Piece) → all_taken (to_parts ps) ≡ to_parts (map all_taken_piece ps)
unfolding to_parts
all_taken_pieces [] = refl
all_taken_pieces (p ∷ ps) = ap (part p.name p.ty true) (all_taken_pieces ps)

-- a name that is among some is taken, and another stays as it is
pub ruleset take_steps = (piece_of, or-true, or-false, taken_pieces, all_taken_pieces, the_lemmas)
