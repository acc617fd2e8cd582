use Rattle.std.proofs.Common.{◌≡◌, ◌^◌, drop}
use Rattle.std.specs.List.{list_all}
use Rattle.std.specs.Prelude.{nat_lt}
use Rattle.cg_base.specs.Words.{bits}
use Rattle.cg_value.proofs.fit.are_words.Given as goal

abbrev pub invariant-loop-number : goal.invariant-loop-number
invariant-loop-number l = list_all (λ n. nat_lt n (2 ^ bits l.word)) (drop l.number-index l.numbers) ≡ list_all (λ n. nat_lt n (2 ^ bits l.word)) l.numbers
