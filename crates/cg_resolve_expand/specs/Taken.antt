-- Parts of which some are taken.
use Rattle.std.specs.Prelude.{ℕ, ◌||◌, true, List, map}
use Rattle.cg_base.specs.Types.{Piece}
use Rattle.cg_core.specs.declared.at.At.{At}
use Rattle.cg_resolve_def.specs.Declared.{is_among}

-- the names, without their places
abbrev pub names_in : List At → List (List ℕ)
names_in names = map (λ n. n.name) names

abbrev pub taken_piece : List (List ℕ) → Piece → Piece
taken_piece names p = record { name = p.name; ty = p.ty; taken = p.taken || is_among names p.name }

abbrev pub all_taken_piece : Piece → Piece
all_taken_piece p = record { name = p.name; ty = p.ty; taken = true }
