-- What literals and operators give on values, of any form (docs/LANGUAGE.md, "Evaluation").
use Rattle.std.specs.Prelude.{ℕ, zero, ◌+◌, ◌-◌, ◌*◌, ◌/◌, ◌%◌, ◌^◌, Bool, true, false, not, nat_eq, nat_le, nat_lt, Option, Some, None, bit_and, bit_or, bit_xor, if◌then◌else◌}
use Rattle.cg_base.specs.Types.{Tau, word}
use Rattle.cg_base.specs.Words.{bits}
use Rattle.cg_core.specs.declared.op.Op.{Op}
use Rattle.cg_core.specs.declared.op.Op.TheVariants as ops
use Rattle.cg_value.specs.Values.{Val, number, gone}

-- a literal
abbrev pub literal : Option ℕ → Val
literal None = gone
literal (Some n) = number n

-- how many bits the words of an operand's type have, a truth value's 1
abbrev pub width : Tau → ℕ
width (word w) = bits w
width _ = 1

abbrev pub truth : Bool → ℕ
truth true = 1
truth false = zero

-- a number of so many bits, with each bit turned
abbrev pub complement : ℕ → ℕ → ℕ
complement n a = (2 ^ n - 1) - a

-- Operators on words of n bits and on truth values: words wrap modulo 2^n, a division by 0 gives 0, and so does a shift by n or more.
abbrev pub on_one : Op → ℕ → ℕ → ℕ
on_one ops.Complement n a = complement n a
on_one ops.Not n a = 1 - a
on_one _ n a = zero

abbrev pub on_two : Op → ℕ → ℕ → ℕ → ℕ
on_two ops.Add n a b = (a + b) % 2 ^ n
on_two ops.Sub n a b = (a + (2 ^ n - b)) % 2 ^ n
on_two ops.Mul n a b = (a * b) % 2 ^ n
on_two ops.Div n a b = if nat_eq b zero then zero else a / b
on_two ops.Rem n a b = if nat_eq b zero then zero else a % b
on_two ops.And n a b = bit_and a b
on_two ops.Or n a b = bit_or a b
on_two ops.Xor n a b = bit_xor a b
on_two ops.Shl n a b = if nat_lt b n then (a * 2 ^ b) % 2 ^ n else zero
on_two ops.Shr n a b = if nat_lt b n then a / 2 ^ b else zero
on_two ops.Eq n a b = truth (nat_eq a b)
on_two ops.Ne n a b = truth (not (nat_eq a b))
on_two ops.Lt n a b = truth (nat_lt a b)
on_two ops.Gt n a b = truth (nat_lt b a)
on_two ops.Le n a b = truth (nat_le a b)
on_two ops.Ge n a b = truth (nat_le b a)
on_two ops.Both n a b = bit_and a b
on_two ops.Either n a b = bit_or a b
on_two _ n a b = zero

unfoldable pub operated : Op → Tau → Val → Val
operated o t (number a) = number (on_one o (width t) a)
operated o t _ = gone

unfoldable pub operated_both : Op → Tau → Val → Val → Val
operated_both o t (number a) (number b) = number (on_two o (width t) a b)
operated_both o t _ _ = gone
