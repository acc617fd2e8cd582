-- The source that is made of a number, with its heap and its entry (docs/LANGUAGE.md, "Generator").
use Rattle.std.specs.Prelude.{ℕ, zero, suc, ◌+◌, List, [], ◌++◌, codes, decimal}

-- f<i>, a function by its number; the first has the number 1
unfoldable pub name : ℕ → List ℕ
name i = codes "f" ++ decimal i

-- what a function behind so many others takes apart: its argument, where it is the first, and else what the one before gives on that
unfoldable pub subject : ℕ → List ℕ
subject zero = codes "c"
subject (suc before) = name (suc before) ++ codes " c"

-- the end of its definition: what it puts in the place of what it took
unfoldable pub sum_text : ℕ → List ℕ
sum_text before = codes " in c' {val = v * 3 + " ++ decimal (before + 1) ++ codes "}\n"

-- the two lines of the function behind so many others: its type, and its definition
unfoldable pub type_line : ℕ → List ℕ
type_line before = name (before + 1) ++ codes " : Cell -> Cell\n"

unfoldable pub body_line : ℕ → List ℕ
body_line before = name (before + 1) ++ codes " c = let c' {val = v} = " ++ subject before ++ sum_text before

unfoldable pub function : ℕ → List ℕ
function before = type_line before ++ body_line before

-- the lines of so many functions
unfoldable pub functions : ℕ → List ℕ
functions zero = []
functions (suc before) = functions before ++ function before

-- the source of so many functions: the type of their argument, and then they
abbrev pub source : ℕ → List ℕ
source n = codes "type Cell = {val : U32, tag : U8}\n" ++ functions n

-- its heap file, and its entry, which is the last function
abbrev pub heap : List ℕ
heap = codes "@1 = {val = 0, tag = 0}\narg = @1\n"

abbrev pub entry : ℕ → List ℕ
entry n = name n
