-- The laws of the C program of a list of instances.
use Rattle.std.specs.Prelude.{List}
use Rattle.cg_lower.specs.Collected.{Copy}
use Rattle.cg_lower.specs.Programs.{lowered}
use Rattle.cg_lower.specs.Promises.{AreFew, CanBePrinted, IsSimulated}

-- the C program of a list of instances simulates the update semantics
abbrev pub LoweredSimulates : Type 0
LoweredSimulates = (copies : List Copy) → AreFew copies → IsSimulated copies (lowered copies)

-- and it can be printed
abbrev pub LoweredIsPrintable : Type 0
LoweredIsPrintable = (copies : List Copy) → AreFew copies → CanBePrinted copies (lowered copies)
