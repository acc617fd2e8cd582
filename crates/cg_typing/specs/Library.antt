-- The types of the library's functions at their type arguments, one row for each function.
use Rattle.std.specs.Prelude.{ℕ, false, List, codes, slice_index_or as get_or}
use Rattle.cg_base.specs.declared.fun.Lib.{Lib}
use Rattle.cg_base.specs.declared.fun.Lib.TheVariants.{New, Free, Create, FreeArray, Length, Get, Put, Map, Fold, Seq32, Seq64, Seq32Break}
use Rattle.cg_base.specs.declared.kind.Sigil.TheVariants.{W, U}
use Rattle.cg_base.specs.declared.kind.Word.{Word}
use Rattle.cg_base.specs.declared.kind.Word.TheVariants.{U32, U64}
use Rattle.cg_base.specs.Types.{Tau, unit, word, arrow, abs, variant, fields, none, more, Parts, end, part}
use Rattle.cg_kinds.specs.Kinds.{bang}
use Rattle.cg_typing.specs.Parts.{all_taken}

-- the state of the allocator, and an array
abbrev pub state : Tau
state = abs (codes "SysState") none W

abbrev pub array : Tau → Tau
array t = abs (codes "WordArray") (more t none) W

-- a part that isn't taken
abbrev pub whole : List ℕ → Tau → Parts → Parts
whole name t ps = part name t false ps

-- an unboxed record, and tuples of two and three
abbrev pub unboxed : Parts → Tau
unboxed ps = fields ps U

abbrev pub pair : Tau → Tau → Tau
pair a b = unboxed (whole (codes "p1") a (whole (codes "p2") b end))

abbrev pub triple : Tau → Tau → Tau → Tau
triple a b c = unboxed (whole (codes "p1") a (whole (codes "p2") b (whole (codes "p3") c end)))

-- None or Some, and Break or Iterate
abbrev pub maybe : Tau → Tau
maybe t = variant (whole (codes "None") unit (whole (codes "Some") t end))

abbrev pub stopped : Tau → Tau
stopped t = variant (whole (codes "Break") t (whole (codes "Iterate") unit end))

-- what a function over an array takes: an element, what is carried on, and what is observed
abbrev pub turn_of_array : Tau → Tau → Tau → Tau
turn_of_array a c o = unboxed (whole (codes "elem") a (whole (codes "acc") c (whole (codes "obsv") (bang o) end)))

-- the argument of `map` and of `fold`: an array, a range, a function, what is carried on, and what is observed
abbrev pub over_array : Tau → Tau → Tau → Tau → Tau
over_array whole_array f c o =
    unboxed (whole (codes "arr") whole_array (whole (codes "frm") (word U32) (whole (codes "to") (word U32)
    (whole (codes "f") f (whole (codes "acc") c (whole (codes "obsv") (bang o) end))))))

-- what the function of a loop takes, over numbers of this word: what is carried on, what is observed, and the index
abbrev pub turn_of_loop : Word → Tau → Tau → Tau
turn_of_loop w c o = unboxed (whole (codes "acc") c (whole (codes "obsv") (bang o) (whole (codes "idx") (word w) end)))

-- a loop: from, to and step, a function, what is carried on, and what is observed, to what each turn and the whole give
abbrev pub loop : Word → Tau → Tau → Tau → Tau
loop w c o result =
    arrow
    (unboxed (whole (codes "frm") (word w) (whole (codes "to") (word w) (whole (codes "step") (word w)
    (whole (codes "f") (arrow (turn_of_loop w c o) result) (whole (codes "acc") c (whole (codes "obsv") (bang o) end)))))))
    result

-- a type argument by its position
abbrev pub given : List Tau → ℕ → Tau
given args i = get_or args i unit

-- one row for each function
abbrev pub library_type : Lib → List Tau → Tau
library_type New args = arrow state (pair state (maybe (all_taken (given args 0))))
library_type Free args = arrow (pair state (all_taken (given args 0))) state
library_type Create args = arrow (pair state (word U32)) (pair state (maybe (array (given args 0))))
library_type FreeArray args = arrow (pair state (array (given args 0))) state
library_type Length args = arrow (bang (array (given args 0))) (word U32)
library_type Get args = arrow (pair (bang (array (given args 0))) (word U32)) (given args 0)
library_type Put args = arrow (triple (array (given args 0)) (word U32) (given args 0)) (array (given args 0))
library_type Map args =
    arrow
    (over_array (array (given args 0))
    (arrow (turn_of_array (given args 0) (given args 1) (given args 2)) (pair (given args 0) (given args 1)))
    (given args 1) (given args 2))
    (pair (array (given args 0)) (given args 1))
library_type Fold args =
    arrow
    (over_array (bang (array (given args 0)))
    (arrow (turn_of_array (given args 0) (given args 1) (given args 2)) (given args 1))
    (given args 1) (given args 2))
    (given args 1)
library_type Seq32 args = loop U32 (given args 0) (given args 1) (given args 0)
library_type Seq64 args = loop U64 (given args 0) (given args 1) (given args 0)
library_type Seq32Break args = loop U32 (given args 0) (given args 2) (pair (given args 0) (stopped (given args 1)))
