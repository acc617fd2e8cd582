-- What the machine's soundness needs of levels and signs.
use Rattle.std.proofs.Common.{◌≡◌, ◌≤◌, List, ◌∷◌, refl, sym, arith, true, false, true≢false, Option, Some, None}
use Rattle.std.specs.Prelude.{⊤}
use Rattle.cg_base.specs.declared.place.Place.{Place}
use Rattle.cg_core.specs.declared.op.Op.{Op}
use Rattle.cg_core.specs.declared.op.Op.TheVariants.{Mul, Complement, Not}
use Rattle.cg_surface.specs.Exprs.{Expr, app, member, put}
use Rattle.cg_parser_symbols.specs.Symbols.{Symbol, Seen}
use Rattle.cg_parser_symbols.specs.Symbols as symbols
use Rattle.cg_parser_symbols.specs.Readings.{token}
use Rattle.cg_parser_exprs_def.specs.Grammar.{level, left_of, right_of, Heads, Stands, op_sign}
use Rattle.cg_parser_exprs_def.specs.Machine.{Angle, ToLeft, ToRight, operator, alone_op, shift_op, is_second}

-- the symbol that is read
abbrev pub at : Symbol → Place → List Seen → List Seen
at y p rest = record { symbol = y; place = p } ∷ rest

-- and their operands
pub left_le : (o : Op) → left_of o ≤ 11
left_le Mul = omega arith
left_le o = omega arith

-- the right ones too
pub right_le : (o : Op) → right_of o ≤ 11
right_le Mul = omega arith
right_le o = omega arith

-- an operator with two operands leaves room for one with one on its right
pub right_least : (o : Op) → 3 ≤ level o → 2 ≤ right_of o
right_least Complement h = absurd (omega arith)
right_least Not h = absurd (omega arith)
right_least o h = omega arith

-- an operator that has a sign has two operands
pub op_least : (o : Op) (p : Place) (ts rest : List Seen) → op_sign o p ts rest → 3 ≤ level o
op_least Complement p ts rest r = absurd r
op_least Not p ts rest r = absurd r
op_least o p ts rest r = omega arith

-- a symbol is the sign of its operator
abbrev pub SignOf : Option Op → Symbol → Type 0
SignOf None s = ⊤
SignOf (Some o) s = (p : Place) (ts rest : List Seen) → token s p ts rest → op_sign o p ts rest

-- each symbol is, if it has one
pub sign_of : (s : Symbol) → SignOf (operator s) s
sign_of symbols.star = λ p ts rest r. r
sign_of symbols.slash = λ p ts rest r. r
sign_of symbols.percent = λ p ts rest r. r
sign_of symbols.plus = λ p ts rest r. r
sign_of symbols.minus = λ p ts rest r. r
sign_of symbols.bit_and = λ p ts rest r. r
sign_of symbols.bit_xor = λ p ts rest r. r
sign_of symbols.bit_or = λ p ts rest r. r
sign_of symbols.equal = λ p ts rest r. r
sign_of symbols.not_equal = λ p ts rest r. r
sign_of symbols.less_equal = λ p ts rest r. r
sign_of symbols.greater_equal = λ p ts rest r. r
sign_of symbols.both = λ p ts rest r. r
sign_of symbols.either = λ p ts rest r. r
sign_of s = tt

-- the operators of `<` and `>` close what they may
pub shift_left : (a : Angle) → 5 ≤ left_of (shift_op a)
shift_left ToLeft = omega arith
shift_left ToRight = omega arith

-- the same of one that stands alone
pub alone_left : (a : Angle) → 8 ≤ left_of (alone_op a)
alone_left ToLeft = omega arith
alone_left ToRight = omega arith

-- the second sign of a shift
pub second_sign : (a : Angle) (y : Symbol) (p q : Place) (ts rest : List Seen) → is_second a y ≡ true → op_sign (alone_op a) q ts (at y p rest) → op_sign (shift_op a) q ts rest
second_sign ToLeft (symbols.less true) p q ts rest h r = (r.0, (_, r.1, (p, refl)))
second_sign ToRight (symbols.greater true) p q ts rest h r = (r.0, (_, r.1, (p, refl)))
second_sign a y p q ts rest h r = absurd (true≢false (sym h))

-- what stands at the head of a call stands anywhere
pub stands_of : (e : Expr) → Heads e → Stands e
stands_of (app p f a) h = h
stands_of (member p a at_field) h = h
stands_of (put p a fs) h = h
stands_of e h = tt
