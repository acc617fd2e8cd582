-- Statements of iterators as data, and what they stand for.
use Rattle.std.specs.Prelude.{ℕ, List, [], ◌∷◌, codes, map}
use Rattle.cg_base.specs.declared.kind.Word.{Word}
use Rattle.cg_cmachine_def.specs.BuiltIns.{array_call}
use Rattle.cg_ctree.specs.declared.tree.COpnd.{COpnd}
use Rattle.cg_ctree.specs.declared.tree.CPath.{CPath}
use Rattle.cg_ctree.specs.declared.tree.CRhs.{CRhs}
use Rattle.cg_ctree.specs.declared.tree.CRhs.TheVariants.{Binary, Call as called, Opnd}
use Rattle.cg_ctree.specs.Trees.{Stmt, assign, branch, call, stop, to_block}
use Rattle.cg_cgen_def.specs.Code.{inner}
use Rattle.cg_cgen_def.specs.Loops.{break_tag}
use Rattle.cg_cgen_def.specs.Places.{Place, argument, field, payload, local, number, held, path, operand, field_of_argument, whole_local}
use Rattle.cg_cgen_lines.specs.declared.lines.Line.{Line}
use Rattle.cg_cgen_lines.specs.declared.lines.Line.TheVariants as line
use Rattle.cg_cgen_lines.specs.declared.lines.Right.{Right}
use Rattle.cg_cgen_lines.specs.declared.lines.Right.TheVariants as right
use Rattle.cg_cgen_lines.specs.declared.spots.Spot.{Spot}
use Rattle.cg_cgen_lines.specs.declared.spots.Spot.TheVariants as spot

-- the place of a spot
abbrev pub place_at : Spot → Place
place_at (spot.Number n) = number n
place_at (spot.Given i) = field_of_argument i
place_at (spot.Local j) = whole_local j
place_at (spot.Field j i) = held (local j) (field i ∷ [])
place_at (spot.Tag j) = break_tag j
place_at (spot.Payload j i) = held (local j) (field 1 ∷ payload i ∷ [])

-- the path to a place; to a number there is none, and it is that to the argument
abbrev pub path_to : Place → CPath
path_to (number n) = path argument []
path_to (held b steps) = path b steps

abbrev pub target_at : Spot → CPath
target_at s = path_to (place_at s)

abbrev pub operand_at : Spot → COpnd
operand_at s = operand (place_at s)

-- what a function gives on what is read at some spots
abbrev pub calling : List ℕ → List Spot → CRhs
calling f ss = called f (map operand (map place_at ss))

-- what a line assigns, over the name of the function that is called in each turn
abbrev pub right_of : List ℕ → Right → CRhs
right_of callee (right.At from) = Opnd (operand_at from)
right_of callee (right.Binary o outer w x y) = Binary outer (inner w) o (operand_at x) (operand_at y)
right_of callee (right.Length w) = calling (array_call w (codes "length")) (spot.Given 0 ∷ [])
right_of callee (right.Get w at) = calling (array_call w (codes "get")) (spot.Given 0 ∷ at ∷ [])
right_of callee (right.Turn item) = calling callee (spot.Given 3 ∷ item ∷ [])

-- what puts an element into the array at an index
abbrev pub putting : Word → Spot → Spot → Stmt
putting w at from = call (array_call w (codes "put")) (map operand (map place_at (spot.Given 0 ∷ at ∷ from ∷ [])))

-- the statement of a line
abbrev pub line_of : List ℕ → Line → Stmt
line_of callee (line.Set to r) = assign (target_at to) (right_of callee r)
line_of callee (line.Put w at from) = putting w at from
line_of callee (line.Where flag to r) = branch (operand_at flag) (to_block (assign (target_at to) (right_of callee r) ∷ [])) stop
