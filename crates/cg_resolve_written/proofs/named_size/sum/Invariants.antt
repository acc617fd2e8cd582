use Rattle.std.proofs.Common.{◌≡◌, take, sum}
use Rattle.cg_resolve_written.specs.Capped.{capped}
use Rattle.cg_resolve_written.proofs.named_size.sum.Given as goal

abbrev pub invariant-loop-size : goal.invariant-loop-size
invariant-loop-size l = l.total ≡ capped (sum (take l.size-index l.sizes))
