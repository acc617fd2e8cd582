-- What a part that was found stands for, and what a sort does.
use Rattle.std.specs.Prelude.{Bool, Option}
use Rattle.std.specs.Option.{option_map}
use Rattle.cg_base.specs.declared.ty.Part.{Part}
use Rattle.cg_base.specs.Types.{Piece, part_of}
use Rattle.cg_typing_parts.specs.declared.sort.Sort as written
use Rattle.cg_typing_parts.specs.declared.sort.Sort.TheVariants.{Arithmetic, Equality, Order, Logic}
use Rattle.cg_typing.specs.Operators.{Sort, arithmetic, equality, order, logic}

-- a part of a type, where there is one
abbrev pub piece_at : Option Part → Option Piece
piece_at found = option_map part_of found

-- a part that is taken, or not
abbrev pub marked : Bool → Piece → Piece
marked now p = record { name = p.name; ty = p.ty; taken = now }

-- a sort of operators
abbrev pub the_sort : written.Sort → Sort
the_sort Arithmetic = arithmetic
the_sort Equality = equality
the_sort Order = order
the_sort Logic = logic
