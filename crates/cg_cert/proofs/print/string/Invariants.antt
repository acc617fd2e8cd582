use Rattle.std.proofs.Common.{◌≡◌, ◌++◌, take}
use Rattle.cg_cert.specs.Printed.{string_text}
use Rattle.cg_cert.proofs.print.string.Given as goal

abbrev pub invariant-loop-mark : goal.invariant-loop-mark
invariant-loop-mark l = l.text.items ≡ l.fn.text.items ++ string_text (take l.mark-index l.marks)
