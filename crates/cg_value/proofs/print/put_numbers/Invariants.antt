use Rattle.std.proofs.Common.{◌≡◌, ◌++◌, [], decimal, drop}
use Rattle.cg_value.specs.Printed.{listed}
use Rattle.cg_value.proofs.print.put_numbers.Given as goal

abbrev pub invariant-loop-number : goal.invariant-loop-number
invariant-loop-number l = l.out.items ++ listed decimal l.lead (drop l.number-index l.numbers) ≡ l.fn.out.items ++ listed decimal [] l.numbers
