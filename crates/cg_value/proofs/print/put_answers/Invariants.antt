use Rattle.std.proofs.Common.{◌≡◌, ◌++◌, [], drop}
use Rattle.cg_value.specs.Printed.{bit, listed}
use Rattle.cg_value.proofs.print.put_answers.Given as goal

abbrev pub invariant-loop-answer : goal.invariant-loop-answer
invariant-loop-answer l = l.out.items ++ listed bit l.lead (drop l.answer-index l.answers) ≡ l.fn.out.items ++ listed bit [] l.answers
