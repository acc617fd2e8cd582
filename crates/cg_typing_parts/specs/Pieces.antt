-- Parts of the types of the library's functions, as lists.
use Rattle.std.specs.Prelude.{◌≡◌, ◌++◌, ℕ, map, Result, IfOk, false, List, [], ◌∷◌, codes}
use Rattle.cg_base.specs.declared.kind.Word.{Word}
use Rattle.cg_base.specs.declared.kind.Word.TheVariants.{U32}
use Rattle.cg_base.specs.declared.memory.Memory.{Memory}
use Rattle.cg_base.specs.declared.ty.Part.{Part}
use Rattle.cg_base.specs.declared.ty.Ty.{Ty}
use Rattle.cg_base.specs.Types.{type_of, part_of, Tau, word, arrow, end, Piece}
use Rattle.cg_kinds.specs.Kinds.{bang}
use Rattle.cg_typing.specs.Library.{whole, unboxed, pair, turn_of_array, given}

-- what was made, where there was memory for it, is of this type
abbrev pub Makes : Result Ty Memory → Tau → Type 0
Makes made t = IfOk made (λ ty. type_of ty ≡ t)

-- and has these parts
abbrev pub HasPieces : Result (List Part) Memory → List Piece → Type 0
HasPieces made ps = IfOk made (λ parts. map part_of parts ≡ ps)

-- a part of this name and type that isn't taken
abbrev pub untaken : List ℕ → Tau → Piece
untaken name t = record { name = name; ty = t; taken = false }

-- these parts, and behind them what a loop carries on, and what it observes
abbrev pub with_carried : List Piece → Tau → Tau → List Piece
with_carried ps c o = (ps ++ untaken (codes "acc") c ∷ []) ++ untaken (codes "obsv") (bang o) ∷ []

-- an array, and a range of it
abbrev pub range_pieces : Tau → List Piece
range_pieces a = untaken (codes "arr") a ∷ untaken (codes "frm") (word U32) ∷ untaken (codes "to") (word U32) ∷ []

-- where a loop begins and ends, and its step
abbrev pub step_pieces : Word → List Piece
step_pieces w = untaken (codes "frm") (word w) ∷ untaken (codes "to") (word w) ∷ untaken (codes "step") (word w) ∷ []

-- what a loop takes
abbrev pub over_loop : Word → Tau → Tau → Tau → Tau
over_loop w f c o =
    unboxed (whole (codes "frm") (word w) (whole (codes "to") (word w) (whole (codes "step") (word w)
    (whole (codes "f") f (whole (codes "acc") c (whole (codes "obsv") (bang o) end))))))

-- the function that `map` calls
abbrev pub map_turn : List Tau → Tau
map_turn args = arrow (turn_of_array (given args 0) (given args 1) (given args 2)) (pair (given args 0) (given args 1))
