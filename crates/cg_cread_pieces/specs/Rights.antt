-- The machine that reads right sides, one symbol at a time (docs/LANGUAGE.md, "The C text", `rhs`).
use Rattle.std.specs.Prelude.{ℕ, Bool, true, false, ◌==◌, List, [], ◌∷◌, ◌++◌, Option, Some, None, if◌then◌else◌, codes}
use Rattle.std.specs.Str.{bytes_eq}
use Rattle.cg_base.specs.declared.kind.Word.{Word}
use Rattle.cg_base.specs.declared.kind.Word.TheVariants.{U8, U16, U32, U64}
use Rattle.cg_base.specs.Words.{same_word}
use Rattle.cg_ctree.specs.declared.tree.COp.TheVariants.{Eq}
use Rattle.cg_ctree.specs.declared.tree.COpnd.{COpnd}
use Rattle.cg_ctree.specs.declared.tree.CRhs.{CRhs}
use Rattle.cg_ctree.specs.declared.tree.CRhs.TheVariants.{Opnd, Conv, Binary, Flip, IsNull, Call, New}
use Rattle.cg_cread_parts.specs.Operands.{operand_step, operand_end, operand_is_open, function_name}
use Rattle.cg_cread_parts.specs.Symbols.{Symbol, named, typed, keyed, count, opening, closing, comma, tilde, operation, is_part}
use Rattle.cg_cread_parts.specs.declared.operand.Operand.{Operand}
use Rattle.cg_cread_parts.specs.declared.operand.Operand.TheVariants as operand
use Rattle.cg_cread_pieces.specs.declared.right.Cast.{Cast}
use Rattle.cg_cread_pieces.specs.declared.right.Cast.TheVariants.{OfFlip, OfLeft, OfRight}
use Rattle.cg_cread_pieces.specs.declared.right.Spot.{Spot}
use Rattle.cg_cread_pieces.specs.declared.right.Spot.TheVariants.{Before, Opened, Typed}
use Rattle.cg_cread_pieces.specs.declared.right.Slot.{Slot}
use Rattle.cg_cread_pieces.specs.declared.right.Slot.TheVariants as slot
use Rattle.cg_cread_pieces.specs.declared.right.Size.{Size}
use Rattle.cg_cread_pieces.specs.declared.right.Size.TheVariants as size
use Rattle.cg_cread_pieces.specs.declared.right.Right.{Right}
use Rattle.cg_cread_pieces.specs.declared.right.Right.TheVariants as right
use Rattle.cg_cread_parts.specs.declared.symbol.Keyword.TheVariants as key

-- whether operands may be cast to a word ("The C text", `cast`)
abbrev pub is_inner : Word → Bool
is_inner U8 = false
is_inner U16 = false
is_inner U32 = true
is_inner U64 = true

-- whether a cast may be to a word: both casts of an operation are to one ("The C text", `cast`)
abbrev pub allows : Cast → Word → Bool
allows OfFlip v = is_inner v
allows OfLeft v = is_inner v
allows (OfRight u o l) v = same_word u v

-- in an operand of a right side, behind its first symbol ("The C text", `opnd`)
abbrev pub in_operand : Slot → Symbol → Right
in_operand s y = right.InOperand s (operand_step operand.Wanted y)

-- before a right side ("The C text", `rhs`)
abbrev pub on_wanted : Symbol → Right
on_wanted opening = right.Opened
on_wanted y = in_operand slot.Alone y

-- behind the first `(` ("The C text", `rhs`)
abbrev pub on_opened : Symbol → Right
on_opened (typed w) = right.Typed w
on_opened y = right.Stuck

-- behind the first `(` and a word ("The C text", `rhs`)
abbrev pub on_typed : Word → Symbol → Right
on_typed w closing = right.Outer w
on_typed w y = right.Stuck

-- behind the first word in parentheses ("The C text", `rhs`)
abbrev pub on_outer : Word → Symbol → Right
on_outer w opening = right.Inner w
on_outer w y = in_operand (slot.Converted w) y

-- a test for null, which gives an `uint8_t` ("The C text", `rhs`)
abbrev pub on_null : Word → Symbol → Right
on_null U8 y = in_operand slot.Tested y
on_null w y = right.Stuck

-- behind the first word in parentheses and a `(` ("The C text", `rhs`)
abbrev pub on_inner : Word → Symbol → Right
on_inner w tilde = right.InCast w OfFlip Before
on_inner w opening = right.InCast w OfLeft Opened
on_inner w y = on_null w y

-- before a cast ("The C text", `rhs`)
abbrev pub on_before : Word → Cast → Symbol → Right
on_before w c opening = right.InCast w c Opened
on_before w c y = right.Stuck

-- behind the `(` of a cast ("The C text", `rhs`)
abbrev pub on_cast_opened : Word → Cast → Symbol → Right
on_cast_opened w c (typed v) = if allows c v then right.InCast w c (Typed v) else right.Stuck
on_cast_opened w c y = right.Stuck

-- behind the word of a cast ("The C text", `rhs`)
abbrev pub on_cast_typed : Word → Cast → Word → Symbol → Right
on_cast_typed w c v closing = right.InOperand (slot.OfCast w c v) operand.Wanted
on_cast_typed w c v y = right.Stuck

-- in a cast ("The C text", `rhs`)
abbrev pub on_cast : Word → Cast → Spot → Symbol → Right
on_cast w c Before y = on_before w c y
on_cast w c Opened y = on_cast_opened w c y
on_cast w c (Typed v) y = on_cast_typed w c v y

-- behind the operand of a cast ("The C text", `rhs`)
abbrev pub on_behind : Word → Cast → Word → COpnd → Symbol → Right
on_behind w OfFlip v o closing = right.Whole (Flip w v o)
on_behind w OfLeft v l (operation p) = right.InCast w (OfRight v p l) Before
on_behind w (OfRight u p l) v r closing = right.Whole (Binary w u p l r)
on_behind w c v o y = right.Stuck

-- behind the `(` of a call ("The C text", `rhs`)
abbrev pub called : Option (List ℕ) → Right
called None = right.Stuck
called (Some f) = right.InOperand (slot.First f) operand.Wanted

-- behind an operand that is alone ("The C text", `rhs`)
abbrev pub on_alone : COpnd → Symbol → Right
on_alone o opening = called (function_name o)
on_alone o y = right.Stuck

-- behind an operand that is tested for null ("The C text", `rhs`)
abbrev pub on_tested : COpnd → Symbol → Right
on_tested o (operation Eq) = right.NullSign o
on_tested o y = right.Stuck

-- behind the first argument ("The C text", `rhs`)
abbrev pub on_first : List ℕ → COpnd → Symbol → Right
on_first f o comma = right.Second f o
on_first f o closing = right.Whole (Call f (o ∷ []))
on_first f o y = right.Stuck

-- behind a further argument ("The C text", `rhs`)
abbrev pub on_argument : List ℕ → List COpnd → Symbol → Right
on_argument f os comma = right.InOperand (slot.Argument f os) operand.Wanted
on_argument f os closing = right.Whole (Call f os)
on_argument f os y = right.Stuck

-- behind an operand ("The C text", `rhs`)
abbrev pub behind : Slot → COpnd → Symbol → Right
behind slot.Alone o y = on_alone o y
behind (slot.Converted w) o y = right.Stuck
behind slot.Tested o y = on_tested o y
behind (slot.OfCast w c v) o y = on_behind w c v o y
behind (slot.First f) o y = on_first f o y
behind (slot.Argument f os) o y = on_argument f (os ++ o ∷ []) y

-- behind an operand, where there is one ("The C text", `rhs`)
abbrev pub filled : Slot → Option COpnd → Symbol → Right
filled s None y = right.Stuck
filled s (Some o) y = behind s o y

-- in an operand ("The C text", `rhs`)
abbrev pub on_operand : Slot → Operand → Symbol → Right
on_operand s m y = if is_part y then right.InOperand s (operand_step m y) else filled s (operand_end m) y

-- at `sizeof` behind a function's name and an argument: the function is `cg_new` ("The C text", `rhs`)
abbrev pub sized : List ℕ → COpnd → Right
sized f o = if bytes_eq f (codes "cg_new") then right.InSize o size.Begun else right.Stuck

-- before the second argument ("The C text", `rhs`)
abbrev pub on_second : List ℕ → COpnd → Symbol → Right
on_second f o (keyed key.Sizeof) = sized f o
on_second f o y = in_operand (slot.Argument f (o ∷ [])) y

-- behind `==` ("The C text", `rhs`)
abbrev pub on_zero : COpnd → Symbol → Right
on_zero o (count n) = if n == 0 then right.NullZero o else right.Stuck
on_zero o y = right.Stuck

-- behind `== 0` ("The C text", `rhs`)
abbrev pub on_null_end : COpnd → Symbol → Right
on_null_end o closing = right.Whole (IsNull o)
on_null_end o y = right.Stuck

-- behind `sizeof` ("The C text", `rhs`)
abbrev pub on_size : COpnd → Size → Symbol → Right
on_size o size.Begun opening = right.InSize o size.Opened
on_size o size.Opened (keyed key.Struct) = right.InSize o size.StructRead
on_size o size.StructRead (named x) = right.InSize o (size.Named x)
on_size o (size.Named x) closing = right.InSize o (size.Closed x)
on_size o (size.Closed x) closing = right.Whole (New o x)
on_size o s y = right.Stuck

-- one symbol more, in the words and casts before an operand ("The C text", `rhs`)
abbrev pub cast_step : Right → Symbol → Right
cast_step right.Wanted y = on_wanted y
cast_step right.Opened y = on_opened y
cast_step (right.Typed w) y = on_typed w y
cast_step (right.Outer w) y = on_outer w y
cast_step (right.Inner w) y = on_inner w y
cast_step (right.InCast w c s) y = on_cast w c s y
cast_step m y = right.Stuck

-- one symbol more of a right side ("The C text", `rhs`)
abbrev pub right_step : Right → Symbol → Right
right_step (right.InOperand s m) y = on_operand s m y
right_step (right.Second f o) y = on_second f o y
right_step (right.NullSign o) y = on_zero o y
right_step (right.NullZero o) y = on_null_end o y
right_step (right.InSize o s) y = on_size o s y
right_step m y = cast_step m y

-- the right side that an operand ends, where it ends one ("The C text", `rhs`)
abbrev pub operand_right : Slot → Option COpnd → Option CRhs
operand_right slot.Alone (Some o) = Some (Opnd o)
operand_right (slot.Converted w) (Some o) = Some (Conv w o)
operand_right s o = None

-- the right side that ends there, where one does ("The C text", `rhs`)
abbrev pub right_end : Right → Option CRhs
right_end (right.InOperand s m) = operand_right s (operand_end m)
right_end (right.Whole r) = Some r
right_end m = None

-- whether a right side may still come of it ("The C text", `rhs`)
abbrev pub right_is_open : Right → Bool
right_is_open (right.InOperand s m) = operand_is_open m
right_is_open right.Stuck = false
right_is_open m = true
