-- What operations give (docs/LANGUAGE.md, "The C subset", operations).
use Rattle.std.specs.Prelude.{ℕ, ◌+◌, ◌-◌, ◌*◌, ◌/◌, ◌%◌, ◌^◌, Bool, not, [], ◌∷◌, nat_lt, nat_le, nat_eq, cond}
use Rattle.std.specs.Int.Bits.{bit_and, bit_or, bit_xor}
use Rattle.cg_base.specs.Words.{bits}
use Rattle.cg_base.specs.declared.kind.Word.{Word}
use Rattle.cg_cmachine_def.specs.Layouts.{cell}
use Rattle.cg_cmachine_def.specs.Operands.{Value, typed}
use Rattle.cg_cmachine_def.specs.Outcomes.{Judged, ok, no, on}
use Rattle.cg_ctree.specs.declared.tree.COp.{COp}
use Rattle.cg_ctree.specs.declared.tree.COp.TheVariants as op
use Rattle.cg_ctree.specs.declared.why.Why.TheVariants.{ByZero, ShiftTooFar}
use Rattle.cg_heap.specs.declared.cell.Scalar.TheVariants.{Word as Number}

-- 1 where it holds, else 0
abbrev pub flag : Bool → ℕ
flag b = cond b 1 0

-- a number as a value of a word type
abbrev pub word_value : Word → ℕ → Value
word_value w n = typed (cell w) (Number n ∷ [])

-- an operation on numbers of a width, before the result is taken modulo 2^width
abbrev pub operation : COp → ℕ → ℕ → ℕ → Judged ℕ
operation op.Add width a b = ok (a + b)
operation op.Sub width a b = ok ((a + 2 ^ width) - b)
operation op.Mul width a b = ok (a * b)
operation op.Div width a b = cond (nat_eq b 0) (no ByZero) (ok (a / b))
operation op.Rem width a b = cond (nat_eq b 0) (no ByZero) (ok (a % b))
operation op.And width a b = ok (bit_and a b)
operation op.Or width a b = ok (bit_or a b)
operation op.Xor width a b = ok (bit_xor a b)
operation op.Shl width a b = cond (nat_lt b width) (ok (a * 2 ^ b)) (no ShiftTooFar)
operation op.Shr width a b = cond (nat_lt b width) (ok (a / 2 ^ b)) (no ShiftTooFar)
operation op.Eq width a b = ok (flag (nat_eq a b))
operation op.Ne width a b = ok (flag (not (nat_eq a b)))
operation op.Lt width a b = ok (flag (nat_lt a b))
operation op.Gt width a b = ok (flag (nat_lt b a))
operation op.Le width a b = ok (flag (nat_le a b))
operation op.Ge width a b = ok (flag (nat_le b a))

-- a number as one of a word type
abbrev pub converted : Word → ℕ → Value
converted w n = word_value w (n % 2 ^ bits w)

-- the operands cast to the inner word, the result computed modulo 2^width of that and converted to the outer word
abbrev pub computed : Word → Word → COp → ℕ → ℕ → Judged Value
computed outer inner o a b =
    on (operation o (bits inner) (a % 2 ^ bits inner) (b % 2 ^ bits inner)) (λ n. ok (converted outer (n % 2 ^ bits inner)))

-- all bits of the operand, cast to the inner word, turned round
abbrev pub flipped : Word → Word → ℕ → Value
flipped outer inner a = converted outer ((2 ^ bits inner - 1) - a % 2 ^ bits inner)
