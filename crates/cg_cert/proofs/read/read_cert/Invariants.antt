use Rattle.std.proofs.Common.{◌≡◌, drop}
use Rattle.cg_base.specs.Reader.{parsed}
use Rattle.cg_cert.specs.Machine.{begin, reader}
use Rattle.cg_cert.specs.Views.{state_of}
use Rattle.cg_cert.proofs.read.read_cert.Given as goal

abbrev pub invariant-loop-at : goal.invariant-loop-at
invariant-loop-at l = parsed reader begin l.bytes ≡ parsed reader (state_of l.reader) (drop l.at l.bytes)
