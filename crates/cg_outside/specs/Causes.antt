-- A count that stays at its last value.
use Rattle.std.specs.Prelude.{ℕ, ◌+◌, ◌-◌, ◌^◌, ◌≤◌, min}

-- what comes after a count that stays at 2^64 - 1, its last value
abbrev pub next_count : ℕ → ℕ
next_count count = min (count + 1) (2 ^ 64 - 1)

-- a count that stays at its last value has risen, or stands there
abbrev pub Rose : ℕ → ℕ → Type 0
Rose before now = next_count before ≤ now
