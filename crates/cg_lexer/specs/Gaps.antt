-- What stands between tokens: white space and comments (docs/LANGUAGE.md, "Tokens").
use Rattle.std.specs.Prelude.{◌≡◌, ℕ, Bool, true, false, ◌||◌, ◌==◌, List, [], ◌∷◌, ◌++◌, take, ⊤, codes}
use Rattle.std.specs.List.{list_any, flat_map}
use Rattle.std.specs.Str.{bytes_eq}
use Rattle.cg_base.specs.Bytes.{white, Each, Stops}
use Rattle.cg_lexer.specs.Bytes.{inline}

-- whether bytes begin with `{-`, with `-}`, and with `--`
abbrev pub opens : List ℕ → Bool
opens bytes = bytes_eq (take 2 bytes) (codes "{-")

abbrev pub closes : List ℕ → Bool
closes bytes = bytes_eq (take 2 bytes) (codes "-}")

abbrev pub dashes : List ℕ → Bool
dashes bytes = bytes_eq (take 2 bytes) (codes "--")

-- the inside of a block comment: nothing more, a byte and more, or a comment inside it and more
pub data Inside : Type 0 where
  nothing : Inside
  byte : ℕ → Inside → Inside
  nested : Inside → Inside → Inside

-- the bytes of an inside
abbrev pub inside_text : Inside → List ℕ
inside_text nothing = []
inside_text (byte b more) = b ∷ inside_text more
inside_text (nested inner more) = codes "{-" ++ (inside_text inner ++ (codes "-}" ++ inside_text more))

-- with the end behind it
abbrev pub closed_text : Inside → List ℕ
closed_text inside = inside_text inside ++ codes "-}"

-- only `{-` and `-}` count, read from left to right: no byte of the inside begins one of them
abbrev pub IsInside : Inside → Type 0
IsInside nothing = ⊤
IsInside (byte b more) = ((opens (b ∷ closed_text more) || closes (b ∷ closed_text more)) ≡ false) × IsInside more
IsInside (nested inner more) = IsInside inner × IsInside more

-- a byte of white space, a line comment with what stands behind its `--`, or a block comment with its inside
pub data Piece : Type 0 where
  blank : ℕ → Piece
  line : List ℕ → Piece
  block : Inside → Piece

-- the bytes of a piece
abbrev pub piece_text : Piece → List ℕ
piece_text (blank b) = b ∷ []
piece_text (line text) = codes "--" ++ text
piece_text (block inside) = codes "{-" ++ closed_text inside

-- the bytes of pieces in a row
abbrev pub gap_text : List Piece → List ℕ
gap_text gap = flat_map piece_text gap

-- a piece, with the bytes behind it: a line comment goes up to the end of its line, in which nothing counts
abbrev pub IsPiece : Piece → List ℕ → Type 0
IsPiece (blank b) rest = white b ≡ true
IsPiece (line text) rest = Each inline text × Stops inline rest
IsPiece (block inside) rest = IsInside inside

-- pieces in a row, with the bytes behind them
abbrev pub IsGap : List Piece → List ℕ → Type 0
IsGap [] rest = ⊤
IsGap (p ∷ gap) rest = IsPiece p (gap_text gap ++ rest) × IsGap gap rest

-- bytes are white space and comments
abbrev pub IsSpace : List ℕ → Type 0
IsSpace bytes = (gap : List Piece) × (bytes ≡ gap_text gap) × IsGap gap []

-- whether a line ends within these bytes
abbrev pub has_line_feed : List ℕ → Bool
has_line_feed bytes = list_any (λ b. b == 10) bytes
