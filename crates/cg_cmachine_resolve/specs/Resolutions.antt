-- A program whose names are resolved.
use Rattle.std.specs.Prelude.{◌≡◌, ℕ, ◌+◌, List, [], ◌∷◌, Bool, drop, get_or, is_some, map, Option, Some, None}
use Rattle.std.specs.List.{All}
use Rattle.cg_cmachine_layout.specs.declared.kind.Kind.{Kind}
use Rattle.cg_cmachine_layout.specs.Kinds.{layout_of}
use Rattle.cg_cmachine_resolve.specs.declared.code.Code.{Code}
use Rattle.cg_cmachine_resolve.specs.declared.code.Position.{Position}
use Rattle.cg_cmachine_resolve.specs.declared.line.Line.{Line}
use Rattle.cg_cmachine_resolve.specs.Lines.{IsAt, Stands, Whole}
use Rattle.cg_cmachine_resolve.specs.Scopes.{scope_of, total}
use Rattle.cg_cmachine_def.specs.Layouts.{layout}
use Rattle.cg_ctree.specs.declared.tree.CBody.{CBody}
use Rattle.cg_ctree.specs.declared.tree.CFun.{CFun}
use Rattle.cg_ctree.specs.declared.tree.CStmt.{CStmt}

-- what is resolved, and the statements of each block of each function
pub record Resolution : Type 0 where
  pub whole : Whole
  pub blocks : List (List (List CStmt))

-- the statements of lines
abbrev pub sources : List Line → List CStmt
sources = map (λ line. line.source.now)

-- the blocks of a function
abbrev pub blocks_in : Resolution → ℕ → List (List CStmt)
blocks_in r i = get_or r.blocks i []

-- the statements from a place on
abbrev pub lines_at : Resolution → Position → List CStmt
lines_at r at = drop at.index (get_or (blocks_in r at.function) at.block [])

-- the place behind a statement
abbrev pub next : Position → Position
next at = record { function = at.function; block = at.block; index = at.index + 1 }

-- the statements of a body come first
abbrev pub IsFirst : Option CBody → List (List CStmt) → Type 0
IsFirst None blocks = Unit {0}
IsFirst (Some b) blocks = get_or blocks 0 [] ≡ b.stmts

-- what is told of a function without its statements
pub record IsHead (w : Whole) (f : CFun) (kind : Kind) (params : List Kind) (slots : ℕ) (has_body : Bool) : Type 0 where
  pub result : layout_of kind ≡ layout w.program.structs f.ty
  pub takes : map layout_of params ≡ map (λ d. layout w.program.structs d.ty) f.params
  pub many : slots ≡ total (scope_of w.program.structs f)
  pub defined : has_body ≡ is_some f.body

-- a function's code
pub record IsCode (w : Whole) (f : CFun) (c : Code) : Type 0 where
  pub head : IsHead w f c.kind c.params.items c.slots c.has_body
  pub first : IsFirst f.body (map (λ lines. sources lines.items) c.blocks.items)
  pub lines : All (λ lines. All (Stands w (scope_of w.program.structs f) (map (λ lines. sources lines.items) c.blocks.items)) lines.items) c.blocks.items

-- a line stands at a place
pub record IsLine (r : Resolution) (at : Position) (line : Line) : Type 0 where
  pub here : lines_at r at ≡ line.source.now ∷ lines_at r (next at)
  pub stands : IsAt r.whole at.function (λ f. Stands r.whole (scope_of r.whole.program.structs f) (blocks_in r at.function) line)
