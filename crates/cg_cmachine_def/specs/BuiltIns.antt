-- The functions that `cogent.h` declares (docs/LANGUAGE.md, "The C subset", built-ins): from operands and a store to what is given, with
-- the steps that it takes.
use Rattle.std.specs.Prelude.{ℕ, ◌+◌, Bool, true, false, ◌&&◌, List, [], ◌∷◌, ◌++◌, codes, Option, Some, None, nat_le, nat_lt, unwrap_or, if◌then◌else◌}
use Rattle.std.specs.Str.{bytes_eq}
use Rattle.cg_base.specs.declared.kind.Word.{Word}
use Rattle.cg_base.specs.declared.kind.Word.TheVariants.{U8, U16, U32, U64}
use Rattle.cg_cmachine_def.specs.Layouts.{Layout, cell, pointer}
use Rattle.cg_cmachine_def.specs.Operands.{Value, typed, present, number_at, address_in, give, only}
use Rattle.cg_cmachine_def.specs.Operations.{word_value}
use Rattle.cg_cmachine_def.specs.Outcomes.{Judged, ok, no, on, State, Outcome, done, stuck, lift, spend_for}
use Rattle.cg_cmachine_def.specs.Targets.{with_cell_at}
use Rattle.cg_ctree.specs.declared.why.Why.TheVariants.{NoCell, KindsDiffer}
use Rattle.cg_heap.specs.declared.cell.Cell.{Cell}
use Rattle.cg_heap.specs.declared.cell.Fresh.{Fresh}
use Rattle.cg_heap.specs.declared.cell.Fresh.TheVariants as fresh
use Rattle.cg_heap.specs.declared.cell.Scalar.{Scalar}
use Rattle.cg_heap.specs.declared.cell.Scalar.TheVariants.{Address}
use Rattle.cg_heap.specs.Stored.{Stored, answer_of, asked_of, cell_at, cell_length, changed, slot_of, with_element, with_fresh, without_answer, without_cell}
use Rattle.cg_value.specs.Fits.{most_elements}

-- what a call of a built-in's name is: `cg_new` without `sizeof` is none that anything can be asked of
pub data BuiltIn : Type 0 where
  new_alone : BuiltIn
  free : BuiltIn
  create : Word → BuiltIn
  free_array : Word → BuiltIn
  length_of : Word → BuiltIn
  get : Word → BuiltIn
  put : Word → BuiltIn

-- ---- names

abbrev pub width_text : Word → List ℕ
width_text U8 = codes "8"
width_text U16 = codes "16"
width_text U32 = codes "32"
width_text U64 = codes "64"

-- the name of a built-in on arrays of a width
abbrev pub array_call : Word → List ℕ → List ℕ
array_call w action = codes "cg_w" ++ width_text w ++ codes "_" ++ action

abbrev pub first_named : List ℕ → List (List ℕ × BuiltIn) → Option BuiltIn
first_named x [] = None
first_named x (e ∷ es) = if bytes_eq x e.0 then Some e.1 else first_named x es

abbrev pub on_arrays : Word → List (List ℕ × BuiltIn)
on_arrays w =
    (array_call w (codes "create"), create w) ∷ (array_call w (codes "free"), free_array w) ∷ (array_call w (codes "length"), length_of w)
    ∷ (array_call w (codes "get"), get w) ∷ (array_call w (codes "put"), put w) ∷ []

-- the built-in of a name, whatever a program declares
abbrev pub built_in : List ℕ → Option BuiltIn
built_in x =
    first_named x ((codes "cg_new", new_alone) ∷ (codes "cg_free", free) ∷ on_arrays U8 ++ on_arrays U16 ++ on_arrays U32 ++ on_arrays U64)

-- ---- types

abbrev pub allocator : Layout
allocator = pointer (codes "SysState")

abbrev pub array_of : Word → Layout
array_of w = pointer (codes "W" ++ width_text w)

-- ---- what is asked of operands

-- the cell that an operand points to has to be there; of one that is no pointer nothing is asked here
abbrev pub is_there : Stored → Value → Judged (Unit {0})
is_there m (typed (pointer x) us) = on (address_in (typed (pointer x) us)) (λ p. on (present m p) (λ c. ok tt))
is_there m v = ok tt

-- an operand of a type, as its scalar
abbrev pub scalar_of : Layout → Value → Judged Scalar
scalar_of l v = on (give l v) (λ us. ok (only us))

-- an operand of a pointer type, as its address
abbrev pub pointer_of : Layout → Value → Judged ℕ
pointer_of l v = on (give l v) (λ us. address_in v)

abbrev pub number_of : Word → Value → Judged ℕ
number_of w v = on (scalar_of (cell w) v) (λ u. number_at w u)

-- ---- what they do

-- what a built-in gives, if it gives a value
abbrev pub Given : Type 0
Given = Option Value

abbrev pub only_value : Stored → State → Value → ℕ → Outcome Given
only_value m s v left = done (Some v) s left

-- the state with another store
abbrev pub with_store : State → Stored → State
with_store s m = record { store = m; made = s.made; freed = s.freed }

-- what an allocator answers next; no where it has no answer left, or is no list of answers
abbrev pub next_answer : ℕ → Stored → Bool
next_answer q m = unwrap_or (asked_of (answer_of 0) q m) false

-- A cell to be made, for which an allocator is asked: its answer is taken off, also where nothing is made, which gives the null
-- address. The steps are judged before that.
abbrev pub granted : Layout → ℕ → Bool → Fresh → ℕ → State → ℕ → Outcome Given
granted l q true f cost s left = spend_for s.store cost left (λ rest.
    done (Some (typed l (Address (s.store.top + 1) ∷ [])))
    (record { store = with_fresh f (changed without_answer q s.store); made = s.made ++ (s.store.top + 1) ∷ []; freed = s.freed }) rest)
granted l q false f cost s left = done (Some (typed l (Address 0 ∷ []))) (with_store s (changed without_answer q s.store)) left

-- `cg_new`, of so many slots for a struct
abbrev pub make_struct : List ℕ → ℕ → Value → State → ℕ → Outcome Given
make_struct x slots v s left =
    lift s.store (on (is_there s.store v) (λ u. pointer_of allocator v)) (λ q.
    granted (pointer x) q (next_answer q s.store) (fresh.Slots slots) 0 s left)

abbrev pub make_array : Word → ℕ → ℕ → State → ℕ → Outcome Given
make_array w q n s left = granted (array_of w) q (next_answer q s.store && nat_le n most_elements) (fresh.Words n) n s left

-- a cell that is given back
abbrev pub given_back : ℕ → State → ℕ → Outcome Given
given_back p s left = done None (record { store = without_cell p s.store; made = s.made; freed = s.freed ++ p ∷ [] }) left

-- how long a cell is: its slots, its elements or the answers that are left
abbrev pub length_at : ℕ → Stored → ℕ
length_at p m = by_cell (cell_at m p) where
  by_cell : Option Cell → ℕ
  by_cell None = 0
  by_cell (Some c) = cell_length c

-- an element, or 0 where there is none; from whatever cell has such a slot or element
abbrev pub element_at : Word → ℕ → ℕ → Stored → Judged Value
element_at w p i m = if nat_lt i (length_at p m) then read (asked_of (slot_of i) p m) else ok (word_value w 0) where
  read : Option Scalar → Judged Value
  read None = no NoCell
  read (Some u) = on (number_at w u) (λ n. ok (word_value w n))

-- the store with an element written; nothing is changed where there is none
abbrev pub with_element_at : ℕ → ℕ → ℕ → Stored → Judged Stored
with_element_at p i n m = if nat_lt i (length_at p m) then written (asked_of (with_element i n) p m) else ok m where
  written : Option Cell → Judged Stored
  written None = no NoCell
  written (Some c) = ok (with_cell_at p c m)

abbrev pub nothing : State → ℕ → Stored → Outcome Given
nothing s left m = done None (with_store s m) left

-- a built-in that gives no value stands on the right of no assignment
abbrev pub as_asked : Bool → Judged (Unit {0})
as_asked true = no KindsDiffer
as_asked false = ok tt

-- A call with operands that are judged: whether its value is asked for, and what comes of it. Cells that aren't there come first, then
-- operands of other types, then what a cell isn't.
abbrev pub called : BuiltIn → Bool → List Value → State → ℕ → Outcome Given
called free wanted (q ∷ p ∷ []) s left =
    lift s.store (on (is_there s.store q) (λ _. on (is_there s.store p) (λ _. on (pointer_of allocator q) (λ _. on (address_in p) (λ a. on (as_asked wanted) (λ _. ok a)))))) (λ a.
    given_back a s left)
called (free_array w) wanted (q ∷ p ∷ []) s left =
    lift s.store (on (is_there s.store q) (λ _. on (is_there s.store p) (λ _. on (pointer_of allocator q) (λ _. on (pointer_of (array_of w) p) (λ a. on (as_asked wanted) (λ _. ok a)))))) (λ a.
    given_back a s left)
called (create w) wanted (q ∷ n ∷ []) s left =
    lift s.store (on (is_there s.store q) (λ _. pointer_of allocator q)) (λ a. lift s.store (number_of U32 n) (λ k. make_array w a k s left))
called (length_of w) wanted (p ∷ []) s left =
    lift s.store (on (is_there s.store p) (λ _. pointer_of (array_of w) p)) (λ a. done (Some (word_value U32 (length_at a s.store))) s left)
called (get w) wanted (p ∷ i ∷ []) s left =
    lift s.store (on (is_there s.store p) (λ _. on (pointer_of (array_of w) p) (λ a. on (number_of U32 i) (λ k. element_at w a k s.store)))) (λ v.
    done (Some v) s left)
called (put w) wanted (p ∷ i ∷ v ∷ []) s left =
    lift s.store (on (is_there s.store p) (λ _. on (pointer_of (array_of w) p) (λ a. on (number_of U32 i) (λ k. on (number_of w v) (λ n. on (as_asked wanted) (λ _. with_element_at a k n s.store)))))) (λ m.
    nothing s left m)
called _ wanted vs s left = stuck KindsDiffer s.store
