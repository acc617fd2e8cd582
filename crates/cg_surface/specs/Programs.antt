-- Programs as plain data, and what a program of the code stands for.
use Rattle.std.specs.Prelude.{ℕ, max, List, [], ◌∷◌, map}
use Rattle.cg_base.specs.declared.kind.Bound.{Bound}
use Rattle.cg_base.specs.declared.place.Place.{Place}
use Rattle.cg_core.specs.declared.at.At.{At}
use Rattle.cg_surface.specs.declared.program.Item.{Item}
use Rattle.cg_surface.specs.declared.program.Item.TheVariants.{Synonym, Abstract, Signature, Define}
use Rattle.cg_surface.specs.declared.program.Program.{Program}
use Rattle.cg_surface.specs.Written.{Written, written_of}
use Rattle.cg_surface.specs.Written as types
use Rattle.cg_surface.specs.Patterns.{Pattern, pattern_of}
use Rattle.cg_surface.specs.Patterns as patterns
use Rattle.cg_surface.specs.Exprs.{Expr, expr_of}
use Rattle.cg_surface.specs.Exprs as exprs

-- an item: a synonym, an abstract type, a signature with its type variables and their places, or a definition
pub data Entry : Type 0 where
  synonym : At → List At → Written → Entry
  abstract : At → List At → Entry
  signature : At → List Bound → List Place → Written → Entry
  define : At → Pattern → Expr → Entry

abbrev pub entry_of : Item → Entry
entry_of (Synonym at params body) = synonym at params (written_of body)
entry_of (Abstract at params) = abstract at params
entry_of (Signature at vars places ty) = signature at vars places (written_of ty)
entry_of (Define at param body) = define at (pattern_of param) (expr_of body)

abbrev pub program_of : Program → List Entry
program_of p = map entry_of p.items

-- the depth of an item: that of its deepest type, pattern or expression
abbrev pub entry_depth : Entry → ℕ
entry_depth (synonym at params body) = types.depth_of body
entry_depth (abstract at params) = 0
entry_depth (signature at vars places ty) = types.depth_of ty
entry_depth (define at param body) = max (patterns.depth_of param) (exprs.depth_of body)

-- the depth of a program: that of its deepest item
abbrev pub program_depth : List Entry → ℕ
program_depth [] = 0
program_depth (i ∷ items) = max (entry_depth i) (program_depth items)
