-- Laws of the library on heaps: what it gives represents the library's value, and it is a step.
use Rattle.std.specs.Prelude.{◌≡◌, ℕ, ◌+◌, ◌≤◌, Bool, true, false, IsTrue, List, length}
use Rattle.cg_base.specs.declared.fun.Fun.TheVariants.{Lib as OfLib}
use Rattle.cg_base.specs.declared.fun.Lib.{Lib}
use Rattle.cg_base.specs.declared.fun.Lib.TheVariants.{New, Free, Create, FreeArray, Length, Get, Put}
use Rattle.cg_base.specs.declared.kind.Sigil.TheVariants.{R, W}
use Rattle.cg_base.specs.declared.kind.Kinds.{Kinds}
use Rattle.cg_base.specs.Types.{Tau, fields}
use Rattle.cg_heap.specs.Calls.{Does, heap_of}
use Rattle.cg_heap.specs.declared.cell.Scalar.{Scalar}
use Rattle.cg_heap.specs.ForeignHeaps.{answers_left}
use Rattle.cg_heap.specs.Frames.{Frame}
use Rattle.cg_heap.specs.Reps.{HeapWorld, Holds, foot}
use Rattle.cg_heap.specs.Steps.{IsFine, Side, Step, side}
use Rattle.cg_heap.specs.Stored.{Stored}
use Rattle.cg_lib_heap.specs.Library.{HasArray, library_heap}
use Rattle.cg_lib_value.specs.Library.{library_value}
use Rattle.cg_kinds.specs.Kinds.{is_word}
use Rattle.cg_core.specs.Kernels.{Function}
use Rattle.cg_typing.specs.Functions.{are_good_arguments, asked_by, takes_as_many}
use Rattle.cg_typing.specs.Instances.{as_arguments}
use Rattle.cg_typing.specs.Library.{given, library_type}
use Rattle.cg_typing.specs.Parts.{taken_by, given_by}
use Rattle.cg_value.specs.Values.{Val}
use Rattle.cg_eval_operations.specs.Iterators.{is_iterator}

-- a record that can be written
abbrev pub is_written : Tau → Bool
is_written (fields ps W) = true
is_written _ = false

-- what the first type argument has to be, of a function that takes no function
abbrev pub is_argument : Lib → Tau → Bool
is_argument New t = is_written t
is_argument Free t = is_written t
is_argument Create t = is_word t
is_argument FreeArray t = is_word t
is_argument Length t = is_word t
is_argument Get t = is_word t
is_argument Put t = is_word t
is_argument _ t = false

-- each function that takes no function gives what represents the library's value, by a step
abbrev pub LibraryDoes : Type 0
LibraryDoes =
    (world : HeapWorld) (s : Stored) (lib : Lib) (args : List Tau) (us : List Scalar) (v : Val) → IsTrue (is_argument lib (given args 0))
    → Holds world (heap_of s) (taken_by (library_type lib args)) us v
    → IsFine (side (heap_of s) s.top (foot (heap_of s) W (taken_by (library_type lib args)) us) (foot (heap_of s) R (taken_by (library_type lib args)) us))
    → Does world s (taken_by (library_type lib args)) us (library_heap lib args us s) (given_by (library_type lib args)) (library_value lib args v)

-- the array that a function reads is there, so that who calls lib_heap with what represents a value meets its condition on arrays
abbrev pub ArraysAreThere : Type 0
ArraysAreThere =
    (world : HeapWorld) (s : Stored) (lib : Lib) (args : List Tau) (us : List Scalar) (v : Val) → IsTrue (is_argument lib (given args 0))
    → Holds world (heap_of s) (taken_by (library_type lib args)) us v → HasArray lib us s

-- each cell that is made takes an answer
abbrev pub AnswersSuffice : Type 0
AnswersSuffice =
    (world : HeapWorld) (s : Stored) (lib : Lib) (args : List Tau) (us : List Scalar) (v : Val) → IsTrue (is_argument lib (given args 0))
    → Holds world (heap_of s) (taken_by (library_type lib args)) us v
    → length (library_heap lib args us s).made + answers_left (given_by (library_type lib args)) (library_value lib args v)
    ≤ answers_left (taken_by (library_type lib args)) v

-- a step is a frame of what it writes
abbrev pub StepsAreFrames : Type 0
StepsAreFrames =
    (before after : Side) (made freed : List ℕ) → IsFine before → Step before made freed after → Frame before.heap before.writes after.heap after.writes

-- after a step all is fine again
abbrev pub StepsKeepFine : Type 0
StepsKeepFine =
    (before after : Side) (made freed : List ℕ) → IsFine before → Step before made freed after → IsFine after

-- the highest address rises by one for each cell that is made
abbrev pub AddressesRise : Type 0
AddressesRise = (s : Stored) (lib : Lib) (args : List Tau) (us : List Scalar) → (library_heap lib args us s).store.top ≡ s.top + length (library_heap lib args us s).made

-- type arguments that typing lets through are what these laws ask
abbrev pub GoodArgumentsSuffice : Type 0
GoodArgumentsSuffice =
    (functions : List Function) (vars : List Kinds) (lib : Lib) (types : List Tau) → is_iterator lib ≡ false → IsTrue (takes_as_many functions (OfLib lib) (length types))
    → IsTrue (are_good_arguments vars (asked_by functions (OfLib lib)) (as_arguments types)) → IsTrue (is_argument lib (given types 0))
