-- The shape of a type: what decides how its values lie in memory.
use Rattle.std.specs.Prelude.{false}
use Rattle.cg_base.specs.declared.kind.Sigil.{Sigil}
use Rattle.cg_base.specs.declared.kind.Sigil.TheVariants.{R, W, U}
use Rattle.cg_base.specs.Types.{Tau, var, seen, unit, word, bool, arrow, abs, variant, fields, Taus, none, more, Parts, end, part, Piece}

-- a sigil, not observed
abbrev pub shape_sigil : Sigil → Sigil
shape_sigil W = W
shape_sigil R = W
shape_sigil U = U

-- a type with nothing taken and nothing observed; arrows and type variables stay (docs/LANGUAGE.md, "Layout")
unfoldable mutual
  pub shape : Tau → Tau
  shape (var n) = var n
  shape (seen n) = seen n
  shape unit = unit
  shape (word w) = word w
  shape bool = bool
  shape (arrow a b) = arrow a b
  shape (abs name args sigil) = abs name (shape_all args) (shape_sigil sigil)
  shape (variant alts) = variant (shape_parts alts)
  shape (fields ps sigil) = fields (shape_parts ps) (shape_sigil sigil)

  pub shape_all : Taus → Taus
  shape_all none = none
  shape_all (more t ts) = more (shape t) (shape_all ts)

  pub shape_parts : Parts → Parts
  shape_parts end = end
  shape_parts (part name t taken ps) = part name (shape t) false (shape_parts ps)

-- a part, with the shape of its type and not taken
abbrev pub shape_piece : Piece → Piece
shape_piece p = record { name = p.name; ty = shape p.ty; taken = false }
