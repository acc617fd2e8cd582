-- What resolved statements stand for.
use Rattle.std.specs.Prelude.{◌≡◌, ℕ, List, [], ◌∷◌, length, map, slice_get, Option, Some, None}
use Rattle.cg_cmachine_builtins.specs.Called.{built_in_of}
use Rattle.cg_cmachine_layout.specs.Kinds.{shape_layout}
use Rattle.cg_cmachine_resolve.specs.declared.line.Action.{Action}
use Rattle.cg_cmachine_resolve.specs.declared.line.Action.TheVariants as action
use Rattle.cg_cmachine_resolve.specs.declared.line.Callee.{Callee}
use Rattle.cg_cmachine_resolve.specs.declared.line.Callee.TheVariants as callee
use Rattle.cg_cmachine_resolve.specs.declared.line.Line.{Line}
use Rattle.cg_cmachine_resolve.specs.declared.line.Right.{Right}
use Rattle.cg_cmachine_resolve.specs.declared.line.Right.TheVariants as right
use Rattle.cg_cmachine_resolve.specs.Scopes.{Scope, frame_of, total}
use Rattle.cg_cmachine_def.specs.Layouts.{Layout, pointed, size}
use Rattle.cg_cmachine_def.specs.Operands.{Value, typed, judge, judge_all, read_path}
use Rattle.cg_cmachine_def.specs.Outcomes.{ok, on}
use Rattle.cg_cmachine_def.specs.Runs.{abstract', built, find, Linked, own}
use Rattle.cg_cmachine_def.specs.Runs as runs
use Rattle.cg_cmachine_def.specs.Targets.{write}
use Rattle.cg_ctree.specs.declared.tree.CCase.{CCase}
use Rattle.cg_ctree.specs.declared.tree.CFun.{CFun}
use Rattle.cg_ctree.specs.declared.tree.COpnd.{COpnd}
use Rattle.cg_ctree.specs.declared.tree.CPath.{CPath}
use Rattle.cg_ctree.specs.declared.tree.CProgram.{CProgram}
use Rattle.cg_ctree.specs.declared.tree.CRhs.{CRhs}
use Rattle.cg_ctree.specs.declared.tree.CRhs.TheVariants.{Opnd, Conv, Binary, Flip, IsNull, Call, New}
use Rattle.cg_ctree.specs.declared.tree.CStmt.{CStmt, CStmt-F, out-CStmt}
use Rattle.cg_ctree.specs.declared.tree.CStmt.TheOpen as form
use Rattle.cg_ctree.specs.declared.tree.CStruct.{CStruct}
use Rattle.cg_ctree.specs.Trees.{function_of, program_of}
use Rattle.cg_cmachine_values.specs.declared.place.Operand.{Operand}
use Rattle.cg_cmachine_values.specs.declared.place.Place.{Place}
use Rattle.cg_cmachine_values.specs.Values.{AreWithin, IsOperandWithin, IsWithin, judged, judged_all, read_place, write_place}
use Rattle.cg_heap.specs.Calls.{Answer}
use Rattle.cg_heap.specs.declared.cell.Scalar.{Scalar}
use Rattle.cg_heap.specs.declared.foreign.Link.{Link}
use Rattle.cg_heap.specs.Stored.{Stored}

-- what is resolved: a program with its links
pub record Whole : Type 0 where
  pub program : CProgram
  pub links : List Link

-- with what a table answers
abbrev pub linked : Whole → (List ℕ → List Scalar → Stored → Option Answer) → Linked
linked w asked = record { program = program_of w.program; links = w.links; asked = asked }

-- ---- places and operands of a frame

-- a value of a type has as many scalars as the type has slots
abbrev pub IsWhole : Value → Type 0
IsWhole v = (l : Layout) (us : List Scalar) → v ≡ typed l us → length us ≡ size l

-- a place is where a path leads, in each frame of a scope
pub record Leads (ss : List CStruct) (vs : Scope) (p : CPath) (q : Place) : Type 0 where
  pub within : IsWithin (total vs) q
  pub reads : (m : Stored) (us : List Scalar) → length us ≡ total vs → read_path ss m (frame_of vs us) p ≡ read_place m us q
  pub writes : (m : Stored) (us : List Scalar) (v : Value) → length us ≡ total vs → IsWhole v
      → write ss (frame_of vs us) m p v ≡ on (write_place m us q v) (λ c. ok (record { frame = frame_of vs c.slots; store = c.store }))

pub record Means (ss : List CStruct) (vs : Scope) (o : COpnd) (q : Operand) : Type 0 where
  pub within : IsOperandWithin (total vs) q
  pub judges : (m : Stored) (us : List Scalar) → length us ≡ total vs → judge ss m (frame_of vs us) o ≡ judged m us q

pub record MeanAll (ss : List CStruct) (vs : Scope) (os : List COpnd) (qs : List Operand) : Type 0 where
  pub within : AreWithin (total vs) qs
  pub judge : (m : Stored) (us : List Scalar) → length us ≡ total vs → judge_all ss m (frame_of vs us) os ≡ judged_all m us qs

-- ---- what is called

-- the function at a place
abbrev pub IsAt : Whole → ℕ → (CFun → Type 0) → Type 0
IsAt w i P = by (slice_get w.program.funs i) where
  by : Option CFun → Type 0
  by None = ⊥
  by (Some f) = P f

-- a call of a name is this call
abbrev pub Calls : Whole → List ℕ → Callee → Type 0
Calls w x (callee.BuiltIn b) = (asked : _) → runs.callee (linked w asked) x ≡ built (built_in_of b)
Calls w x callee.Missing = ((asked : _) → runs.callee (linked w asked) x ≡ own) × (find x (map function_of w.program.funs) ≡ None)
Calls w x (callee.Own i) =
    ((asked : _) → runs.callee (linked w asked) x ≡ own) × IsAt w i (λ f. find x (map function_of w.program.funs) ≡ Some (function_of f))
Calls w x (callee.Linked i name) = IsAt w i (λ f. (asked : _) → runs.callee (linked w asked) x ≡ abstract' (function_of f) name.now)

-- ---- statements

module _ (w : Whole) (vs : Scope) where
  -- what stands on the right of an assignment
  abbrev pub IsRight : CRhs → Right → Type 0
  IsRight (Opnd o) (right.Operand q) = Means w.program.structs vs o q
  IsRight (Conv k o) (right.Convert k' q) = (k ≡ k') × Means w.program.structs vs o q
  IsRight (Binary outer inner op l r) (right.Binary outer' inner' op' q q') =
      (outer ≡ outer') × (inner ≡ inner') × (op ≡ op') × Means w.program.structs vs l q × Means w.program.structs vs r q'
  IsRight (Flip outer inner o) (right.Flip outer' inner' q) = (outer ≡ outer') × (inner ≡ inner') × Means w.program.structs vs o q
  IsRight (IsNull o) (right.IsNull q) = Means w.program.structs vs o q
  IsRight (Call f os) (right.Call c qs) = Calls w f c × MeanAll w.program.structs vs os qs.items
  IsRight (New o x) (right.New q name shape) = Means w.program.structs vs o q × (x ≡ name.now) × (pointed w.program.structs x ≡ shape_layout shape)
  IsRight r q = ⊥

module _ (w : Whole) (vs : Scope) (blocks : List (List CStmt)) where
  -- the block of a number is this one
  abbrev pub IsBlock : ℕ → List CStmt → Type 0
  IsBlock i ss = slice_get blocks i ≡ Some ss

  abbrev pub AreCases : List CCase → List (ℕ × ℕ) → Type 0
  AreCases [] [] = Unit {0}
  AreCases (c ∷ cs) (e ∷ es) = (c.tag ≡ e.0) × IsBlock e.1 c.body × AreCases cs es
  AreCases _ _ = ⊥

  -- an action is what a form of statement does
  abbrev pub DoesForm : CStmt-F CStmt CCase → Action → Type 0
  DoesForm (form.Assign p r) (action.Assign q r') = Leads w.program.structs vs p q × IsRight w vs r r'
  DoesForm (form.If o x y) (action.If q i j) = Means w.program.structs vs o q × IsBlock i x × IsBlock j y
  DoesForm (form.While o x) (action.While q i) = Means w.program.structs vs o q × IsBlock i x
  DoesForm (form.Switch o cs) (action.Switch q es) = Means w.program.structs vs o q × AreCases cs es.items
  DoesForm (form.Call f os) (action.Call c qs) = Calls w f c × MeanAll w.program.structs vs os qs.items
  DoesForm (form.Return o) (action.Return q) = Means w.program.structs vs o q
  DoesForm s a = ⊥

  -- an action is what a statement does
  abbrev pub Does : CStmt → Action → Type 0
  Does s a = DoesForm (out-CStmt s) a

  abbrev pub Stands : Line → Type 0
  Stands line = Does line.source.now line.action
