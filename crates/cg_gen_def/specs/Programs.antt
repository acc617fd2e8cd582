-- The program that the generated source spells (docs/LANGUAGE.md, "Generator"). Each function has two lines, behind the line of the type.
use Rattle.std.specs.Prelude.{ℕ, zero, suc, ◌+◌, ◌*◌, true, List, [], ◌∷◌, ◌++◌, length, codes, Some}
use Rattle.cg_base.specs.declared.place.Place.{Place}
use Rattle.cg_core.specs.declared.at.At.{At}
use Rattle.cg_core.specs.declared.op.Op.TheVariants.{Add, Mul}
use Rattle.cg_surface.specs.Exprs as exprs
use Rattle.cg_surface.specs.Exprs.{Expr}
use Rattle.cg_surface.specs.Patterns as patterns
use Rattle.cg_surface.specs.Patterns.{Pattern}
use Rattle.cg_surface.specs.Programs.{Entry, define, signature, synonym}
use Rattle.cg_surface.specs.Written as types
use Rattle.cg_surface.specs.Written.{Written}
use Rattle.cg_gen.specs.Generated.{name, subject}

abbrev pub place : ℕ → ℕ → Place
place line column = record { line = line; column = column }

abbrev pub at : ℕ → ℕ → List ℕ → At
at line column n = record { place = place line column; name = n }

-- the lines of the function behind so many others, and how many bytes its name has, and what it takes apart
abbrev pub type_row : ℕ → ℕ
type_row before = before * 2 + 2

abbrev pub body_row : ℕ → ℕ
body_row before = before * 2 + 3

abbrev pub width : ℕ → ℕ
width before = length (name (before + 1))

abbrev pub reach : ℕ → ℕ
reach before = length (name (before + 1)) + length (subject before)

-- the first item: the type of the argument
abbrev pub plain : ℕ → ℕ → List ℕ → Written
plain line column n = types.named (place line column) n types.no_types

abbrev pub cell_item : Entry
cell_item = synonym (at 1 6 (codes "Cell")) []
    (types.fields (place 1 13) true (types.and_field (types.and_field types.no_fields (at 1 14 (codes "val")) (plain 1 20 (codes "U32"))) (at 1 25 (codes "tag")) (plain 1 31 (codes "U8"))))

-- a function's type
unfoldable pub type_item : ℕ → Entry
type_item before =
    signature (at (type_row before) 1 (name (before + 1))) [] []
    (types.arrow (place (type_row before) (width before + 4)) (plain (type_row before) (width before + 4) (codes "Cell")) (plain (type_row before) (width before + 12) (codes "Cell")))

-- what it takes apart: its argument, where it is the first, and else what the function before gives on that
unfoldable pub subject_of : ℕ → Expr
subject_of zero = exprs.name (place (body_row 0) (width 0 + 25)) (codes "c") types.no_types
subject_of (suc before) =
    exprs.app (place (body_row (suc before)) (width (suc before) + 25))
    (exprs.name (place (body_row (suc before)) (width (suc before) + 25)) (name (suc before)) types.no_types)
    (exprs.name (place (body_row (suc before)) (reach (suc before) + 24)) (codes "c") types.no_types)

-- the pattern that takes the value out, and what it puts in the place of it
abbrev pub taken : ℕ → Pattern
taken before =
    patterns.take (place (body_row before) (width before + 10)) (codes "c'")
    (patterns.and_field patterns.no_fields (at (body_row before) (width before + 14) (codes "val")) (patterns.name (place (body_row before) (width before + 20)) (codes "v")))

abbrev pub sum_of : ℕ → Expr
sum_of before =
    exprs.binary (place (body_row before) (reach before + 45)) Add
    (exprs.binary (place (body_row before) (reach before + 41)) Mul (exprs.name (place (body_row before) (reach before + 39)) (codes "v") types.no_types)
    (exprs.number (place (body_row before) (reach before + 43)) (Some 3)))
    (exprs.number (place (body_row before) (reach before + 47)) (Some (before + 1)))

abbrev pub put_of : ℕ → Expr
put_of before =
    exprs.put (place (body_row before) (reach before + 29)) (exprs.name (place (body_row before) (reach before + 29)) (codes "c'") types.no_types)
    (exprs.and_field exprs.no_fields (at (body_row before) (reach before + 33) (codes "val")) (sum_of before))

-- a function's definition
unfoldable pub body_item : ℕ → Entry
body_item before =
    define (at (body_row before) 1 (name (before + 1))) (patterns.name (place (body_row before) (width before + 2)) (codes "c"))
    (exprs.lets (place (body_row before) (width before + 6)) (exprs.and_bind exprs.no_binds (taken before) (subject_of before) []) (put_of before))

-- the items of so many functions
unfoldable pub items : ℕ → List Entry
items zero = []
items (suc before) = items before ++ type_item before ∷ body_item before ∷ []

-- the program
abbrev pub program : ℕ → List Entry
program n = cell_item ∷ items n
