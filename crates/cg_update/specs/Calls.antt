-- Functions that have no body: those of the library that take no function, and abstract functions (docs/LANGUAGE.md, "The library").
use Rattle.std.specs.Prelude.{ℕ, ◌^◌, Bool, true, false, ◌&&◌, nat_le, nat_lt, List, length, slice_get, Option, Some, None, if◌then◌else◌}
use Rattle.std.specs.List.{list_all}
use Rattle.std.specs.Option.{option_map}
use Rattle.cg_base.specs.declared.fun.Lib.{Lib}
use Rattle.cg_base.specs.declared.fun.Lib.TheVariants.{New, Free, Create, FreeArray, Length, Get, Put}
use Rattle.cg_base.specs.Types.{Tau, unit, word}
use Rattle.cg_base.specs.Words.{bits}
use Rattle.cg_core.specs.Kernels.{Function}
use Rattle.cg_heap.specs.Calls.{Answer}
use Rattle.cg_heap.specs.declared.cell.Cell.{Cell}
use Rattle.cg_heap.specs.declared.cell.Cell.TheVariants.{Slots, Words, Answers}
use Rattle.cg_heap.specs.declared.cell.Scalar.{Scalar}
use Rattle.cg_heap.specs.ForeignHeaps.{ForeignHeap}
use Rattle.cg_heap.specs.Reps.{address_of, first_address, number_of}
use Rattle.cg_heap.specs.Stored.{Stored, cell_at}
use Rattle.cg_lib_heap.specs.Library.{library_heap, next_at, second}
use Rattle.cg_lib_value.specs.Library.{first_type}
use Rattle.cg_eval_def.specs.Foreigns.{is_known}
use Rattle.cg_typing.specs.Instances.{Entry, Instance}
use Rattle.cg_typing.specs.Parts.{taken_by}
use Rattle.cg_value.specs.Fits.{most_elements}
use Rattle.cg_value.specs.Foreign.{Foreign}
use Rattle.cg_update.specs.Machines.{is_machine}
use Rattle.cg_update.specs.Outcomes.{State, Outcome, given, on, pay_for, where_true}

-- ---- what is run

-- Instances with their types and bodies, the functions of the source that they are of, and a table of abstract functions.
pub record Program : Type 0 where
  pub functions : List Function
  pub list : List Instance
  pub entries : List Entry
  pub foreign : Foreign
  pub on_heaps : ForeignHeap

-- ---- cells that are used

-- a list of answers
abbrev pub are_answers : Option Cell → Bool
are_answers (Some (Answers bs)) = true
are_answers _ = false

-- slots
abbrev pub are_slots : Option Cell → Bool
are_slots (Some (Slots us)) = true
are_slots _ = false

-- an array of words of this type: fewer than 2^32 elements, all in range
abbrev pub are_words : Tau → Option Cell → Bool
are_words (word w) (Some (Words ns)) = nat_lt (length ns) (2 ^ 32) && list_all (λ n. nat_lt n (2 ^ bits w)) ns
are_words t c = false

-- ---- the library

-- the cells that a function uses are there, and of the forms that it is for
abbrev pub has_cells : Lib → List Tau → List Scalar → Stored → Bool
has_cells New args us m = are_answers (cell_at m (first_address us))
has_cells Free args us m = are_answers (cell_at m (first_address us)) && are_slots (cell_at m (address_of (second us)))
has_cells Create args us m = are_answers (cell_at m (first_address us))
has_cells FreeArray args us m = are_answers (cell_at m (first_address us)) && are_words (first_type args) (cell_at m (address_of (second us)))
has_cells Length args us m = are_words (first_type args) (cell_at m (first_address us))
has_cells Get args us m = are_words (first_type args) (cell_at m (first_address us))
has_cells Put args us m = are_words (first_type args) (cell_at m (first_address us))
has_cells _ args us m = false

-- what it costs beside the nodes: 1 for each element that is made
abbrev pub library_cost : Lib → List Scalar → Stored → ℕ
library_cost Create us m = if next_at (first_address us) m && nat_le (number_of (second us)) most_elements then number_of (second us) else 0
library_cost _ us m = 0

abbrev pub library : Lib → List Tau → List Scalar → State → ℕ → Outcome
library lib args us s left =
    where_true (has_cells lib args us s.store) (pay_for (library_cost lib us s.store) left (λ rest. given (library_heap lib args us s.store) s rest))

-- ---- abstract functions

-- what is answered to a call of the function at a place of the source: nothing, where the table doesn't know it
abbrev pub answer_of : Program → Option Function → List Scalar → Stored → Option Answer
answer_of p None us m = None
answer_of p (Some f) us m = if is_known p.foreign f then p.on_heaps.asked f.at.name us m else None

-- the types of the instances, by their places
abbrev pub types_of : Program → ℕ → Option Tau
types_of p k = option_map (λ e. e.ty) (slice_get p.entries k)

-- what an instance takes
abbrev pub argument_of : Option Tau → Tau
argument_of None = unit
argument_of (Some t) = taken_by t

-- what it gives has to be a machine value of what the function gives
abbrev pub abstract : Program → Tau → ℕ → List Scalar → State → ℕ → Outcome
abstract p t i us s left =
    on (answer_of p (slice_get p.functions i) us s.store) (λ a.
    where_true (is_machine (types_of p) t a.out.result) (pay_for a.cost left (λ rest. given a.out s rest)))
