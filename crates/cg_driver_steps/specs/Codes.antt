-- The exit code of each status.
use Rattle.std.specs.Prelude.{ℕ}
use Rattle.cg_driver_steps.specs.declared.status.Status.{Status}
use Rattle.cg_driver_steps.specs.declared.status.Status.TheVariants.{Done, Refused, Usage, ReadFault, WriteFault, Memory, StepLimit, HeapRefused, CertRefused, TooLarge}

abbrev pub code_of : Status → ℕ
code_of Done = 0
code_of Refused = 1
code_of Usage = 2
code_of ReadFault = 3
code_of WriteFault = 4
code_of Memory = 5
code_of StepLimit = 6
code_of HeapRefused = 7
code_of CertRefused = 8
code_of TooLarge = 9
