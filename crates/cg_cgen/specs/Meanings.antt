-- What the C of operators does, by the definition of runs (docs/LANGUAGE.md, "Operators in C").
use Rattle.std.specs.Prelude.{◌≡◌, ℕ, ◌+◌, ◌<◌, ◌≤◌, Bool, true, false, List, [], ◌∷◌, length, Some}
use Rattle.std.specs.Str.{bytes_eq}
use Rattle.cg_base.specs.declared.kind.Word.{Word}
use Rattle.cg_base.specs.Words.{bits}
use Rattle.cg_core.specs.declared.op.Op.{Op}
use Rattle.cg_core.specs.declared.op.Op.TheVariants as ops
use Rattle.cg_cmachine_def.specs.Layouts.{Layout, Spot, cell, walk}
use Rattle.cg_cmachine_def.specs.Operands.{Frame, Value, Variable, give, look}
use Rattle.cg_cmachine_def.specs.Outcomes.{State, done, ok}
use Rattle.cg_cmachine_def.specs.Runs.{Calls, Linked, goes, judged, run_block}
use Rattle.cg_cmachine_def.specs.Targets.{spliced, with_scalars}
use Rattle.cg_ctree.specs.declared.tree.COpnd.{COpnd}
use Rattle.cg_ctree.specs.declared.tree.COpnd.TheVariants.{Number, Path}
use Rattle.cg_ctree.specs.declared.tree.CPath.{CPath}
use Rattle.cg_ctree.specs.Trees.{Stmt, to_block}
use Rattle.cg_heap.specs.declared.cell.Scalar.TheVariants.{Word as NumberScalar}
use Rattle.cg_heap.specs.Stored.{Stored}
use Rattle.cg_eval_operations.specs.Operators.{on_one, on_two}
use Rattle.cg_cgen_def.specs.Code.{op_code, takes_two, word_given}

-- ---- operands

-- an operand can be read, and is a number of a word
pub record IsNumber (p : Linked) (m : Stored) (fr : Frame) (word : Word) (o : COpnd) (n : ℕ) : Type 0 where
  pub value : Value
  pub read : judged p m fr o ≡ ok value
  pub given : give (cell word) value ≡ ok (NumberScalar n ∷ [])

-- the operands of `&&`, `||` and `not` are truth values
abbrev pub AreFor : Op → ℕ → ℕ → Type 0
AreFor ops.Both a b = (a < 2) × (b < 2)
AreFor ops.Either a b = (a < 2) × (b < 2)
AreFor ops.Not a b = a < 2
AreFor _ a b = Unit {0}

-- ---- the path that is set

-- a path is a part of a variable, one number of a word
pub record IsPart (fr : Frame) (word : Word) (to : CPath) : Type 0 where
  pub no_arrow : to.arrow ≡ false
  pub variable : Variable
  pub found : look to.base fr ≡ Some variable
  pub spot : Spot
  pub leads : walk to.members variable.layout ≡ Some spot
  pub is_word : spot.layout ≡ cell word
  pub there : spot.start < length variable.scalars

-- the frame with this number there
abbrev pub set : {fr : Frame} {word : Word} {to : CPath} → IsPart fr word to → ℕ → Frame
set {fr} {word} {to} part n = with_scalars to.base (spliced part.spot (NumberScalar n ∷ []) part.variable.scalars) fr

-- an operand is of another variable
abbrev pub IsApart : CPath → COpnd → Type 0
IsApart to (Number n) = Unit {0}
IsApart to (Path q) = bytes_eq q.base to.base ≡ false

-- what an operator takes on the right, and that it is of another variable: nothing, where it takes one operand
abbrev pub IsSecond : Bool → Linked → Stored → Frame → Word → CPath → COpnd → ℕ → Type 0
IsSecond true p m fr word to o n = IsNumber p m fr word o n × IsApart to o
IsSecond false p m fr word to o n = Unit {0}

-- ---- what the C does

-- the number that an operator gives of numbers of a word (docs/LANGUAGE.md, "Operators")
abbrev pub number_given : Op → Word → ℕ → ℕ → ℕ
number_given ops.Complement word a b = on_one ops.Complement (bits word) a
number_given ops.Not word a b = on_one ops.Not 1 a
number_given o word a b = on_two o (bits word) a b

-- statements take k steps, k at most 6, to change a frame to another and nothing else, whatever steps are left behind them
pub record Changes (p : Linked) (calls : Calls) (n : ℕ) (l : Layout) (code : List Stmt) (fr : Frame) (s : State) (after : Frame) : Type 0 where
  pub steps : ℕ
  pub within : steps ≤ 6
  pub runs : (rest : ℕ) → run_block p calls n l (to_block code) fr s (steps + rest) ≡ done (goes after) s rest

-- Statements set a path to what an operator gives of two operands of a word, wherever these can be read and are of other variables: in every
-- program, for every meaning of calls, number of turns, type of the function, frame and state.
abbrev pub Computes : Op → Word → CPath → COpnd → COpnd → List Stmt → Type 0
Computes o word to left right code = (p : Linked) (calls : Calls) (n : ℕ) (l : Layout) (fr : Frame) (s : State) (a b : ℕ)
    → IsNumber p s.store fr word left a → IsApart to left → IsSecond (takes_two o) p s.store fr word to right b → AreFor o a b
    → (part : IsPart fr (word_given o word) to)
    → Changes p calls n l code fr s (set part (number_given o word a b))

-- the C of each operator does what the operator does
abbrev pub OperatorsCompute : Type 0
OperatorsCompute = (o : Op) (word : Word) (to : CPath) (left right : COpnd) → Computes o word to left right (op_code o word to left right)
