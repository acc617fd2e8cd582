use Rattle.std.proofs.Common.{arith, ℕ}
use Rattle.std.proofs.lemmas.List.FromFn.{map-range_with_len_more}
use Rattle.cg_graphs.proofs.ranks.no_ranks.Goals as goal

pub loop-at-preserved : goal.loop-at-preserved
loop-at-preserved c = let zero_of : ℕ → ℕ = λ i. 0 in let h = map-range_with_len_more zero_of 0 c.loop-at._at c.loop-at._at (omega arith) in grind (arith, h)
