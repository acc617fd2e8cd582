-- What a call does to the counts of faults, and which calls in memory fail: they are numbered from 1, and some numbers are told to fail. The
-- numbers stay at 2^64 - 1.
use Rattle.std.specs.Prelude.{◌≡◌, ℕ, List, Bool, true, false, nat_eq, Ok, Err}
use Rattle.std.specs.List.{list_any}
use Rattle.std.specs.declared.result.Result.{Result}
use Rattle.cg_outside.specs.Causes.{next_count}
use Rattle.cg_outside.specs.Failures.{OneMore}
use Rattle.cg_outside.specs.declared.outside.FileFault.{FileFault}
use Rattle.cg_outside.specs.declared.outside.FileFault.TheVariants.{Failed, Memory}

-- whether the next call is among those that are told to fail
abbrev pub is_listed : ℕ → List ℕ → Bool
is_listed calls failing = list_any (λ number. nat_eq number (next_count calls)) failing

-- a call fails exactly where this says so; memory may be wanting at any call
abbrev pub FailsWhere : {T : Type 0} → Bool → Result T FileFault → Type 0
FailsWhere fails (Ok _) = fails ≡ false
FailsWhere fails (Err Failed) = fails ≡ true
FailsWhere fails (Err Memory) = Unit {0}

-- a failed call adds one to the count of its name, and no other call changes a count
abbrev pub CountsFault : {T : Type 0} → List ℕ → (List ℕ → ℕ) → (List ℕ → ℕ) → Result T FileFault → Type 0
CountsFault name old new (Ok _) = new ≡ old
CountsFault name old new (Err Failed) = OneMore name old new
CountsFault name old new (Err Memory) = new ≡ old

-- a failed call raises the count, and no other call changes it
abbrev pub RaisesCount : {T : Type 0} → ℕ → ℕ → Result T FileFault → Type 0
RaisesCount old new (Ok _) = new ≡ old
RaisesCount old new (Err Failed) = new ≡ next_count old
RaisesCount old new (Err Memory) = new ≡ old
