-- Types with one part more.
use Rattle.std.specs.Prelude.{ℕ, Bool, List, [], ◌∷◌}
use Rattle.cg_base.specs.Types.{Tau, unit, abs, variant, fields, more, part, Piece}

-- an abstract type with one argument more, in front of the others
abbrev pub with_argument : Tau → Tau → Tau
with_argument (abs name ts sigil) t = abs name (more t ts) sigil
with_argument _ t = unit

-- a variant or a record with one part more, in front of the others
abbrev pub with_part : Tau → List ℕ → Tau → Bool → Tau
with_part (variant ps) name t taken = variant (part name t taken ps)
with_part (fields ps sigil) name t taken = fields (part name t taken ps) sigil
with_part _ name t taken = unit

-- with all of these in front of the others
abbrev pub with_arguments : List Tau → Tau → Tau
with_arguments [] rest = rest
with_arguments (t ∷ ts) rest = with_argument (with_arguments ts rest) t

abbrev pub with_parts : List Piece → Tau → Tau
with_parts [] rest = rest
with_parts (p ∷ ps) rest = with_part (with_parts ps rest) p.name p.ty p.taken
