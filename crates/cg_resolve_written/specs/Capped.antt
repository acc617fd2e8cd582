-- Numbers that are kept in a `u32`.
use Rattle.std.specs.Prelude.{ℕ, ◌-◌, ◌^◌, min}

-- a number, or the largest of a `u32` where it is larger
abbrev pub capped : ℕ → ℕ
capped n = min n (2 ^ 32 - 1)
