-- What typing asks of types: their parts by name, and whether they are of a form.
use Rattle.std.specs.Prelude.{ℕ, ◌+◌, ◌^◌, Bool, true, false, ◌&&◌, ◌||◌, not, nat_lt, nat_le, List, Option, Some, None, codes, if◌then◌else◌}
use Rattle.std.specs.Str.{bytes_eq}
use Rattle.cg_base.specs.declared.kind.Kinds.{Kinds}
use Rattle.cg_base.specs.declared.kind.Sigil.TheVariants.{R, W}
use Rattle.cg_base.specs.Types.{Tau, unit, word, bool, arrow, abs, variant, fields, Taus, none, more, Parts, end, part, Piece}
use Rattle.cg_base.specs.Words.{bits}
use Rattle.cg_kinds.specs.Kinds.{is_word}
use Rattle.cg_typing.specs.Contexts.{drops}

-- ---- forms

abbrev pub is_bool : Tau → Bool
is_bool bool = true
is_bool _ = false

abbrev pub is_arrow : Tau → Bool
is_arrow (arrow a b) = true
is_arrow _ = false

abbrev pub is_variant : Tau → Bool
is_variant (variant ps) = true
is_variant _ = false

-- what an arrow takes, and what it gives
abbrev pub taken_by : Tau → Tau
taken_by (arrow a b) = a
taken_by _ = unit

abbrev pub given_by : Tau → Tau
given_by (arrow a b) = b
given_by _ = unit

-- a record that is only read
abbrev pub is_read_only : Tau → Bool
is_read_only (fields ps R) = true
is_read_only _ = false

-- both are words, and the second is at least as wide
abbrev pub widens : Tau → Tau → Bool
widens (word v) (word w) = nat_le (bits v) (bits w)
widens _ _ = false

-- a literal is in range of a word: of none where it is above 2^64 - 1
abbrev pub in_range : Option ℕ → Tau → Bool
in_range (Some value) (word w) = nat_lt value (2 ^ bits w)
in_range _ _ = false

-- ---- parts by name

-- the first part of this name
abbrev pub part_named : List ℕ → Parts → Option Piece
part_named n end = None
part_named n (part name t taken ps) = if bytes_eq n name then Some (record { name = name; ty = t; taken = taken }) else part_named n ps

-- the field of a record, and the alternative of a variant
abbrev pub field_in : List ℕ → Tau → Option Piece
field_in n (fields ps sigil) = part_named n ps
field_in n _ = None

abbrev pub alternative_in : List ℕ → Tau → Option Piece
alternative_in n (variant ps) = part_named n ps
alternative_in n _ = None

-- its type, or unit where there is none
abbrev pub held : Option Piece → Tau
held None = unit
held (Some p) = p.ty

-- it is there, and it is there and isn't taken
abbrev pub is_there : Option Piece → Bool
is_there None = false
is_there (Some p) = true

abbrev pub is_left : Option Piece → Bool
is_left None = false
is_left (Some p) = not p.taken

-- it may be put over: it is taken, or may be dropped
abbrev pub may_be_put_over : List Kinds → Option Piece → Bool
may_be_put_over vars None = false
may_be_put_over vars (Some p) = p.taken || drops vars p.ty

-- the first part of this name taken or not, and all else as before
abbrev pub parts_with : List ℕ → Bool → Parts → Parts
parts_with n now end = end
parts_with n now (part name t taken ps) = if bytes_eq n name then part name t now ps else part name t taken (parts_with n now ps)

abbrev pub with_part : List ℕ → Bool → Tau → Tau
with_part n now (variant ps) = variant (parts_with n now ps)
with_part n now (fields ps sigil) = fields (parts_with n now ps) sigil
with_part n now t = t

-- every part of another name is taken
abbrev pub are_others_taken : List ℕ → Parts → Bool
are_others_taken n end = true
are_others_taken n (part name t taken ps) = (bytes_eq n name || taken) && are_others_taken n ps

-- no alternative but this one is left
abbrev pub is_last : List ℕ → Tau → Bool
is_last n (variant ps) = are_others_taken n ps
is_last n _ = false

-- all parts taken
abbrev pub all_parts_taken : Parts → Parts
all_parts_taken end = end
all_parts_taken (part name t taken ps) = part name t true (all_parts_taken ps)

abbrev pub all_taken : Tau → Tau
all_taken (fields ps sigil) = fields (all_parts_taken ps) sigil
all_taken t = t

-- no part is taken
abbrev pub is_whole : Parts → Bool
is_whole end = true
is_whole (part name t taken ps) = not taken && is_whole ps

-- a record that can be written, of which no field is taken
abbrev pub is_cell : Tau → Bool
is_cell (fields ps W) = is_whole ps
is_cell _ = false

-- ---- arrays

abbrev pub are_words : Taus → Bool
are_words none = true
are_words (more t ts) = is_word t && are_words ts

-- every `WordArray` in the type is one of words
abbrev mutual
  pub has_word_arrays : Tau → Bool
  has_word_arrays (arrow a b) = has_word_arrays a && has_word_arrays b
  has_word_arrays (abs name ts sigil) = (not (bytes_eq name (codes "WordArray")) || are_words ts) && have_word_arrays ts
  has_word_arrays (variant ps) = parts_have_word_arrays ps
  has_word_arrays (fields ps sigil) = parts_have_word_arrays ps
  has_word_arrays _ = true

  pub have_word_arrays : Taus → Bool
  have_word_arrays none = true
  have_word_arrays (more t ts) = has_word_arrays t && have_word_arrays ts

  pub parts_have_word_arrays : Parts → Bool
  parts_have_word_arrays end = true
  parts_have_word_arrays (part name t taken ps) = has_word_arrays t && parts_have_word_arrays ps

-- ---- sizes

-- how many nodes a type has
abbrev mutual
  pub nodes : Tau → ℕ
  nodes (arrow a b) = nodes a + nodes b + 1
  nodes (abs name ts sigil) = nodes_all ts + 1
  nodes (variant ps) = nodes_parts ps + 1
  nodes (fields ps sigil) = nodes_parts ps + 1
  nodes _ = 1

  pub nodes_all : Taus → ℕ
  nodes_all none = 0
  nodes_all (more t ts) = nodes t + nodes_all ts

  pub nodes_parts : Parts → ℕ
  nodes_parts end = 0
  nodes_parts (part name t taken ps) = nodes t + nodes_parts ps

-- a type has no more nodes than this
abbrev pub type_size : ℕ
type_size = 1024

abbrev pub is_small_enough : Tau → Bool
is_small_enough t = nat_le (nodes t) type_size
