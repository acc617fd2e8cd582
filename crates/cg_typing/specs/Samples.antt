-- Words for samples of terms and types. All stand on one line, and a node's place is its column.
use Rattle.std.specs.Prelude.{ℕ, List, codes}
use Rattle.cg_base.specs.declared.kind.Sigil.TheVariants.{W}
use Rattle.cg_base.specs.declared.kind.Word.TheVariants.{U8, U16, U32}
use Rattle.cg_base.specs.declared.place.Place.{Place}
use Rattle.cg_base.specs.Types.{Tau, word, fields, end}
use Rattle.cg_core.specs.declared.at.At.{At}
use Rattle.cg_core.specs.Terms.{Tree, term, Shape, Note, Arg}
use Rattle.cg_typing.specs.Library.{whole}

abbrev pub spot : ℕ → Place
spot n = record { line = 1; column = n }

-- a node of a kernel term, and of a core
abbrev pub node : ℕ → Shape Place → Tree Place
node n shape = term (spot n) shape

abbrev pub core : ℕ → Tau → Shape Note → Tree Note
core n t shape = term (record { place = spot n; ty = t }) shape

abbrev pub named : ℕ → List ℕ → At
named n name = record { place = spot n; name = name }

abbrev pub written : ℕ → Tau → Arg
written n t = record { place = spot n; ty = t }

-- ---- types

abbrev pub u8 : Tau
u8 = word U8

abbrev pub u16 : Tau
u16 = word U16

abbrev pub u32 : Tau
u32 = word U32

abbrev pub x : List ℕ
x = codes "x"

-- `{x : U32}`
abbrev pub cell : Tau
cell = fields (whole x u32 end) W
