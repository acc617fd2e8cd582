use Rattle.std.proofs.Common.{◌≡◌, ◌++◌, codes}
use Rattle.cg_ctext.specs.Printed.{spaces}
use Rattle.cg_ctext.proofs.put.put_line.Given as goal

abbrev pub invariant-loop : goal.invariant-loop
invariant-loop l = l.text.items ≡ l.fn.text.items ++ codes "\n" ++ spaces l.counter
