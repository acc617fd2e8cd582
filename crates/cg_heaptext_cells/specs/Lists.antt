-- How the tokens of a list are told apart: the items, the commas between them, and the bracket behind.
use Rattle.std.specs.Prelude.{ℕ, List, codes, if◌then◌else◌}
use Rattle.std.specs.Str.{bytes_eq}
use Rattle.cg_heaptext_def.specs.Tokens.{Token, number, lower, upper, sign}
use Rattle.cg_heaptext_cells.specs.declared.list.Mark.{Mark}
use Rattle.cg_heaptext_cells.specs.declared.list.Mark.TheVariants.{Item, Comma, Over}

abbrev pub sign_mark : List ℕ → Mark
sign_mark x = if bytes_eq x (codes ",") then Comma else Over

abbrev pub marked : Token → Mark
marked (number x) = Item
marked (lower x) = Over
marked (upper x) = Over
marked (sign x) = sign_mark x
