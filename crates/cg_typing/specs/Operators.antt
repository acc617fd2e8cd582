-- Operators: of which types their operands are, what they give, and in which direction each operand stands.
use Rattle.std.specs.Prelude.{Bool, true, false, ◌||◌, Option, Some, None}
use Rattle.cg_base.specs.Types.{Tau, bool, unit}
use Rattle.cg_core.specs.declared.op.Op.{Op}
use Rattle.cg_core.specs.declared.op.Op.TheVariants.{Add, Sub, Mul, Div, Rem, And, Or, Xor, Shl, Shr, Complement, Eq, Ne, Lt, Gt, Le, Ge, Both, Either, Not}
use Rattle.cg_kinds.specs.Kinds.{is_word}
use Rattle.cg_typing.specs.Parts.{is_bool}

-- `+ - * / % .&. .|. .^. << >> complement`; `== /=`; `< > <= >=`; `&& || not`
pub data Sort : Type 0 where
  arithmetic equality order logic : Sort

abbrev pub sort_of : Op → Sort
sort_of Add = arithmetic
sort_of Sub = arithmetic
sort_of Mul = arithmetic
sort_of Div = arithmetic
sort_of Rem = arithmetic
sort_of And = arithmetic
sort_of Or = arithmetic
sort_of Xor = arithmetic
sort_of Shl = arithmetic
sort_of Shr = arithmetic
sort_of Complement = arithmetic
sort_of Eq = equality
sort_of Ne = equality
sort_of Lt = order
sort_of Gt = order
sort_of Le = order
sort_of Ge = order
sort_of Both = logic
sort_of Either = logic
sort_of Not = logic

-- operands of this type may stand there
abbrev pub takes : Sort → Tau → Bool
takes arithmetic t = is_word t
takes equality t = is_word t || is_bool t
takes order t = is_word t
takes logic t = is_bool t

-- what it gives of operands of this type
abbrev pub gives : Sort → Tau → Tau
gives arithmetic t = t
gives equality t = bool
gives order t = bool
gives logic t = bool

-- the type that is checked against; unit where there is none, which T2 refuses before it is asked
abbrev pub checked_type : Option Tau → Tau
checked_type None = unit
checked_type (Some t) = t

-- a part goes along with its node: it synthesises where the node does, and is checked against this type where that is
abbrev pub along : Option Tau → Tau → Option Tau
along None t = None
along (Some wanted) t = Some t

-- the direction of an operand of this type, which is the guide or not. The guide of a comparison is always synthesised,
-- that of arithmetic where the node is; all others are checked
abbrev pub operand : Sort → Option Tau → Bool → Tau → Option Tau
operand logic direction guide t = Some bool
operand arithmetic direction true t = along direction t
operand equality direction true t = None
operand order direction true t = None
operand sort direction false t = Some t
