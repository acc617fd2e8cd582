-- Kinds, bang and substitution of types.
use Rattle.std.specs.Prelude.{ℕ, ◌+◌, max, Bool, true, false, ◌&&◌, List, Option, Some, None, slice_get}
use Rattle.cg_base.specs.declared.kind.Kinds.{Kinds}
use Rattle.cg_base.specs.declared.kind.Sigil.{Sigil}
use Rattle.cg_base.specs.declared.kind.Sigil.TheVariants.{R, W, U}
use Rattle.cg_base.specs.Types.{Tau, var, seen, unit, word, bool, arrow, abs, variant, fields, Taus, none, more, Parts, end, part, Piece}

-- everything may be done
abbrev pub all_kinds : Kinds
all_kinds = record { drop = true; share = true; escape = true }

-- nothing may be done
abbrev pub no_kinds : Kinds
no_kinds = record { drop = false; share = false; escape = false }

-- what is read only: dropped and shared, but it may not escape
abbrev pub seen_kinds : Kinds
seen_kinds = record { drop = true; share = true; escape = false }

-- what both give
unfoldable pub both : Kinds → Kinds → Kinds
both a b = record { drop = a.drop && b.drop; share = a.share && b.share; escape = a.escape && b.escape }

-- what a sigil gives
abbrev pub sigil_kinds : Sigil → Kinds
sigil_kinds W = record { drop = false; share = false; escape = true }
sigil_kinds R = seen_kinds
sigil_kinds U = all_kinds

-- what a part gives: everything where it is taken
abbrev pub at_least : Kinds → Bool → Kinds
at_least k true = all_kinds
at_least k false = k

-- what a variable gives, or nothing where there is none
abbrev pub or_none : Option Kinds → Kinds
or_none (Some k) = k
or_none None = no_kinds

-- the kinds of a type, where each variable has these (the paper's kinding rules; docs/LANGUAGE.md, "Kinds and bang")
unfoldable mutual
  pub kinds : List Kinds → Tau → Kinds
  kinds vars (var n) = or_none (slice_get vars n)
  kinds vars (seen n) = seen_kinds
  kinds vars unit = all_kinds
  kinds vars (word w) = all_kinds
  kinds vars bool = all_kinds
  kinds vars (arrow a b) = all_kinds
  kinds vars (abs name args sigil) = both (sigil_kinds sigil) (kinds_all vars args)
  kinds vars (variant alts) = kinds_parts vars alts
  kinds vars (fields ps sigil) = both (sigil_kinds sigil) (kinds_parts vars ps)

  pub kinds_all : List Kinds → Taus → Kinds
  kinds_all vars none = all_kinds
  kinds_all vars (more t ts) = both (kinds vars t) (kinds_all vars ts)

  pub kinds_parts : List Kinds → Parts → Kinds
  kinds_parts vars end = all_kinds
  kinds_parts vars (part name t taken ps) = both (at_least (kinds vars t) taken) (kinds_parts vars ps)

-- a sigil, observed
abbrev pub bang_sigil : Sigil → Sigil
bang_sigil W = R
bang_sigil R = R
bang_sigil U = U

-- a type, observed (docs/LANGUAGE.md, "Kinds and bang")
unfoldable mutual
  pub bang : Tau → Tau
  bang (var n) = seen n
  bang (seen n) = seen n
  bang unit = unit
  bang (word w) = word w
  bang bool = bool
  bang (arrow a b) = arrow a b
  bang (abs name args sigil) = abs name (bang_all args) (bang_sigil sigil)
  bang (variant alts) = variant (bang_parts alts)
  bang (fields ps sigil) = fields (bang_parts ps) (bang_sigil sigil)

  pub bang_all : Taus → Taus
  bang_all none = none
  bang_all (more t ts) = more (bang t) (bang_all ts)

  pub bang_parts : Parts → Parts
  bang_parts end = end
  bang_parts (part name t taken ps) = part name (bang t) taken (bang_parts ps)

-- a variable's type, or unit where there is none
abbrev pub or_unit : Option Tau → Tau
or_unit (Some t) = t
or_unit None = unit

-- a type with these arguments for its variables, by position
unfoldable mutual
  pub subst : List Tau → Tau → Tau
  subst args (var n) = or_unit (slice_get args n)
  subst args (seen n) = bang (or_unit (slice_get args n))
  subst args unit = unit
  subst args (word w) = word w
  subst args bool = bool
  subst args (arrow a b) = arrow (subst args a) (subst args b)
  subst args (abs name ts sigil) = abs name (subst_all args ts) sigil
  subst args (variant alts) = variant (subst_parts args alts)
  subst args (fields ps sigil) = fields (subst_parts args ps) sigil

  pub subst_all : List Tau → Taus → Taus
  subst_all args none = none
  subst_all args (more t ts) = more (subst args t) (subst_all args ts)

  pub subst_parts : List Tau → Parts → Parts
  subst_parts args end = end
  subst_parts args (part name t taken ps) = part name (subst args t) taken (subst_parts args ps)

-- a part, observed, and with its variables replaced
abbrev pub bang_piece : Piece → Piece
bang_piece p = record { name = p.name; ty = bang p.ty; taken = p.taken }

abbrev pub subst_piece : List Tau → Piece → Piece
subst_piece args p = record { name = p.name; ty = subst args p.ty; taken = p.taken }

-- one more than the largest variable, or 0 where there is none
unfoldable mutual
  pub width : Tau → ℕ
  width (var n) = n + 1
  width (seen n) = n + 1
  width unit = 0
  width (word w) = 0
  width bool = 0
  width (arrow a b) = max (width a) (width b)
  width (abs name ts sigil) = width_all ts
  width (variant alts) = width_parts alts
  width (fields ps sigil) = width_parts ps

  pub width_all : Taus → ℕ
  width_all none = 0
  width_all (more t ts) = max (width t) (width_all ts)

  pub width_parts : Parts → ℕ
  width_parts end = 0
  width_parts (part name t taken ps) = max (width t) (width_parts ps)

-- whether it is a word
abbrev pub is_word : Tau → Bool
is_word (word w) = true
is_word t = false
