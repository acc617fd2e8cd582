-- The C of iterators does what the update semantics does: what both kinds of loops need.
use Rattle.std.proofs.Common.{◌≡◌, ℕ, suc, ◌+◌, ◌^◌, ◌<◌, ◌≤◌, true, Option, Some, List, [], ◌∷◌}
use Rattle.cg_base.specs.declared.fun.Lib.{Lib}
use Rattle.cg_base.specs.declared.kind.Word.TheVariants.{U32}
use Rattle.cg_base.specs.Types.{Tau, arrow}
use Rattle.cg_cgen_def.specs.Bodies.{Low}
use Rattle.cg_cgen_def.specs.Loops.{iterator_low}
use Rattle.cg_cgen_def.specs.Places.{argument_name}
use Rattle.cg_cmachine_def.specs.Layouts.{Layout, cell}
use Rattle.cg_cmachine_def.specs.Operands.{Frame, Value, typed as of_layout}
use Rattle.cg_cmachine_def.specs.Runs.{Linked}
use Rattle.cg_heap.specs.declared.cell.Scalar.{Scalar}
use Rattle.cg_heap.specs.declared.cell.Scalar.TheVariants.{Word as NumberScalar}
use Rattle.cg_typing.specs.Library.{library_type}
use Rattle.cg_typing.specs.Parts.{given_by, taken_by}
use Rattle.cg_update.specs.Machines.{is_machine}
use Rattle.cg_update.specs.Outcomes.{State, gives}
use Rattle.cg_lower_def.specs.CTypes.{c_type, IsDeclared}
use Rattle.cg_lower_def.specs.IteratorCode.{function_type, types_in}
use Rattle.cg_lower_def.specs.Iterated.{Meaning, iterated_by, tag_in}
use Rattle.cg_lower_def.specs.Simulated.{as_run}
use Rattle.cg_lower_laws.proofs.Frames.{Fresh, Is, Keeps}
use Rattle.cg_lower_laws.proofs.Operands.{IsReadable}
use Rattle.cg_lower_laws.proofs.Runs.{Answers, Runs}
use Rattle.cg_lower_laws.proofs.Terms.{lay_c}

-- What a budget is worth in steps of C. A turn pays one, which is worth at least 24 steps, with what its call is granted beyond its own budget
-- and without what it leaves of that.
pub record Price : Type 0 where
  pub worth : ℕ → ℕ
  pub granted : ℕ
  pub left_over : ℕ
  pub pays : (n : ℕ) → granted + 24 + worth n ≤ worth (suc n) + left_over

-- the function of a name, called on a tag and an argument, gives a machine value of its type
pub record TurnCalled (types : ℕ → Option Tau) (numbered : Tau → ℕ) (q : Linked) (callee : List ℕ) (price : Price) (b : Tau) (tag v : Value) (s s' : State) (ws : List Scalar) (left rest : ℕ) : Type 0 where
  pub steps : ℕ
  pub within : steps + price.worth rest + price.left_over ≤ price.worth left + price.granted
  pub answers : Answers q callee (tag ∷ v ∷ []) (as_run s) steps (of_layout (lay_c q (c_type numbered b)) ws) (as_run s')
  pub machine : is_machine types b ws ≡ true

-- With the tag k, where this stands for a function of the type from a to b, it does what a meaning of calls says.
abbrev pub Does : (ℕ → Option Tau) → (Tau → ℕ) → Linked → List ℕ → Price → ℕ → Tau → Tau → Meaning → Type 0
Does types numbered q callee price k a b call =
    (us ws : List Scalar) (s s' : State) (left rest : ℕ) → types k ≡ Some (arrow a b) → call us s left ≡ gives ws s' rest → is_machine types a us ≡ true
    → TurnCalled types numbered q callee price b (of_layout (cell U32) (NumberScalar k ∷ [])) (of_layout (lay_c q (c_type numbered a)) us) s s' ws left rest

-- what the statements of an iterator do: they leave its result at the place of its value, where it can be read
pub record LoopRan (price : Price) (q : Linked) (l : Layout) (a : Low) (fr : Frame) (s s' : State) (result : Layout) (ws : List Scalar) (left rest : ℕ) : Type 0 where
  pub steps : ℕ
  pub frame : Frame
  pub within : steps + price.worth rest ≤ price.worth left + 16
  pub runs : Runs q l a.code fr (as_run s) steps frame (as_run s')
  pub keeps : Keeps frame a.value result ws
  pub readable : IsReadable result ws

-- What has to be proved of an iterator at type arguments: in a frame with its argument and unset locals, where the structs of its types and
-- of its function's are declared and its function does what a meaning of calls says, its C does what it does.
abbrev pub IteratorClaim : Lib → List Tau → Type 0
IteratorClaim lib args =
    (types : ℕ → Option Tau) (numbered : Tau → ℕ) (q : Linked) (l : Layout) (callee : List ℕ) (price : Price) (call : Meaning) (fr : Frame) (s s' : State) (us ws : List Scalar) (left rest : ℕ)
    → ((k : ℕ) (t : Tau) → types k ≡ Some t → k < 2 ^ 32) → Does types numbered q callee price (tag_in lib args us) (taken_by (function_type lib args)) (given_by (function_type lib args)) call
    → IsDeclared numbered q.program.structs (taken_by (library_type lib args)) → IsDeclared numbered q.program.structs (given_by (library_type lib args))
    → IsDeclared numbered q.program.structs (taken_by (function_type lib args)) → IsDeclared numbered q.program.structs (given_by (function_type lib args))
    → Is fr argument_name (lay_c q (c_type numbered (taken_by (library_type lib args)))) us → Fresh (lay_c q) fr 0 (iterator_low lib (types_in numbered lib args) callee).locals
    → is_machine types (taken_by (library_type lib args)) us ≡ true
    → iterated_by call lib args us s left ≡ gives ws s' rest
    → LoopRan price q l (iterator_low lib (types_in numbered lib args) callee) fr s s' (lay_c q (c_type numbered (given_by (library_type lib args)))) ws left rest
