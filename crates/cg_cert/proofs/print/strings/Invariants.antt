use Rattle.std.proofs.Common.{◌≡◌, ◌++◌, take}
use Rattle.std.specs.List.{flat_map}
use Rattle.cg_cert.specs.Printed.{string_text}
use Rattle.cg_cert.proofs.print.strings.Given as goal

abbrev pub invariant-loop-marks : goal.invariant-loop-marks
invariant-loop-marks l = l.text.items ≡ l.fn.text.items ++ flat_map string_text (take l.marks-index l.marks)
