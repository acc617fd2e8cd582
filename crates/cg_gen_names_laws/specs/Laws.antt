-- What holds of the program of each number (docs/LANGUAGE.md, "Generator"). Names of functions are apart as far as `decimal` tells numbers apart,
-- which is below 10 ^ 64: f<10^64> and f<2 * 10^64> have one name.
use Rattle.std.specs.Prelude.{◌≡◌, ℕ, ◌+◌, ◌^◌, ◌<◌, ◌≤◌, position, Some}
use Rattle.std.specs.Str.{bytes_eq}
use Rattle.cg_surface.specs.Programs.{program_depth}
use Rattle.cg_resolve_def.specs.Desugar.{NamesStand, WithinLimits, functions_of}
use Rattle.cg_gen.specs.Generated.{name}
use Rattle.cg_gen_def.specs.Kernels.{functions}
use Rattle.cg_gen_def.specs.Programs.{program}

-- The names of the program are in order: no fault of names, no circle of mentions, no take of a field that isn't there.
abbrev pub NamesAreInOrder : Type 0
NamesAreInOrder = (n : ℕ) → n < 10 ^ 64 → NamesStand (program n)

-- Its kernel is that of so many functions.
abbrev pub KernelIsMade : Type 0
KernelIsMade = (n : ℕ) → n < 10 ^ 64 → functions_of (program n) ≡ functions n

-- It is within the limits on what is written, and on depth.
abbrev pub LimitsAreKept : Type 0
LimitsAreKept = (n : ℕ) → n ≤ 4096 → WithinLimits (program n) × (program_depth (program n) ≤ 1024)

-- The function of the last name is the last.
abbrev pub EntryIsLast : Type 0
EntryIsLast = (before : ℕ) → before + 1 < 10 ^ 64 → position (λ f. bytes_eq f.at.name (name (before + 1))) (functions (before + 1)) ≡ Some before
