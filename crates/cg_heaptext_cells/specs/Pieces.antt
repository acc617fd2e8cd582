-- What each token of a record gives that nobody reaches. A constructor's name gives a word where no payload follows, so it is held till the
-- next token tells; an opening bracket is held, since `()` is a word; and the sign of an address is.
use Rattle.std.specs.Prelude.{ℕ, zero, suc, Bool, ◌||◌, List, [], ◌∷◌, codes, Option, Some, None, if◌then◌else◌}
use Rattle.std.specs.Str.{bytes_eq}
use Rattle.cg_heap.specs.declared.cell.Scalar.{Scalar}
use Rattle.cg_heap.specs.declared.cell.Scalar.TheVariants.{Unset, Word, Address}
use Rattle.cg_heaptext_def.specs.Small.{capped_number}
use Rattle.cg_heaptext_def.specs.Tokens.{Token, number, lower, upper, sign}
use Rattle.cg_heaptext_def.specs.Trees.{Numeral, amount}
use Rattle.cg_heaptext_cells.specs.declared.pieces.Gift.{Gift}
use Rattle.cg_heaptext_cells.specs.declared.pieces.Gift.TheVariants.{Nothing, Counted, Addressed, Plain}
use Rattle.cg_heaptext_cells.specs.declared.pieces.Held.{Held}
use Rattle.cg_heaptext_cells.specs.declared.pieces.Held.TheVariants.{Free, At, Bracket, Name}

-- ---- what is held

abbrev pub is_truth : List ℕ → Bool
is_truth x = bytes_eq x (codes "True") || bytes_eq x (codes "False")

abbrev pub sign_held : List ℕ → Held
sign_held x = if bytes_eq x (codes "@") then At else if bytes_eq x (codes "(") then Bracket else Free

abbrev pub upper_held : List ℕ → Held
upper_held x = if is_truth x then Free else Name

abbrev pub held : Token → Held
held (number x) = Free
held (lower x) = Free
held (upper x) = upper_held x
held (sign x) = sign_held x

-- ---- what is given

abbrev pub number_gift : Held → Gift
number_gift At = Addressed
number_gift Free = Counted
number_gift Bracket = Counted
number_gift Name = Counted

-- a field's name gives nothing
abbrev pub lower_gift : List ℕ → Gift
lower_gift x = if bytes_eq x (codes "_") then Plain Unset else Nothing

abbrev pub upper_gift : List ℕ → Gift
upper_gift x = if bytes_eq x (codes "True") then Plain (Word 1) else if bytes_eq x (codes "False") then Plain (Word 0) else Nothing

-- a sign that stands behind a value
abbrev pub is_closer : List ℕ → Bool
is_closer x = bytes_eq x (codes ",") || bytes_eq x (codes ")") || bytes_eq x (codes "}")

-- there a constructor without a payload is told, and `()`
abbrev pub closer_gift : Held → List ℕ → Gift
closer_gift Name x = Plain (Word 0)
closer_gift Bracket x = if bytes_eq x (codes ")") then Plain (Word 0) else Nothing
closer_gift Free x = Nothing
closer_gift At x = Nothing

abbrev pub sign_gift : Held → List ℕ → Gift
sign_gift h x = if is_closer x then closer_gift h x else Nothing

abbrev pub gift : Held → Token → Gift
gift h (number x) = number_gift h
gift h (lower x) = lower_gift x
gift h (upper x) = upper_gift x
gift h (sign x) = sign_gift h x

-- ---- how many unboxed records are open; None behind the cell

abbrev pub deeper : ℕ → Option ℕ
deeper depth = Some (suc depth)

abbrev pub less : ℕ → Option ℕ
less zero = None
less (suc depth) = Some depth

abbrev pub sign_depth : List ℕ → ℕ → Option ℕ
sign_depth x depth = if bytes_eq x (codes "#{") then deeper depth else if bytes_eq x (codes "}") then less depth else Some depth

abbrev pub depth_at : ℕ → Token → Option ℕ
depth_at depth (number x) = Some depth
depth_at depth (lower x) = Some depth
depth_at depth (upper x) = Some depth
depth_at depth (sign x) = sign_depth x depth

-- ---- what was given, with the numbers in it

-- a number, an address, and a scalar that isn't written as a number
pub data Piece : Type 0 where
  counted : Numeral → Piece
  addressed : Numeral → Piece
  plain : Scalar → Piece

-- what a token gives whose digits, if it is a number, are these
abbrev pub pieces_of : Gift → Numeral → List Piece
pieces_of Nothing n = []
pieces_of Counted n = counted n ∷ []
pieces_of Addressed n = addressed n ∷ []
pieces_of (Plain u) n = plain u ∷ []

abbrev pub given_scalar : Piece → Scalar
given_scalar (counted n) = Word (capped_number (amount n))
given_scalar (addressed n) = Address (capped_number (amount n))
given_scalar (plain u) = u

-- the numbers that are no addresses
abbrev pub counted_in : List Piece → List Numeral
counted_in [] = []
counted_in (counted n ∷ ps) = n ∷ counted_in ps
counted_in (addressed n ∷ ps) = counted_in ps
counted_in (plain u ∷ ps) = counted_in ps
