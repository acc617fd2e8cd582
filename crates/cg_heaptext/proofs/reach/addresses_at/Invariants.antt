use Rattle.std.proofs.Common.{◌≡◌, ◌++◌, drop}
use Rattle.cg_heaptext.specs.Reach.{mentioned_at}
use Rattle.cg_heaptext.proofs.reach.addresses_at.Given as goal

abbrev pub invariant-loop-mention : goal.invariant-loop-mention
invariant-loop-mention l = mentioned_at l.at l.fn.cells l.mention-items ≡ l.found ++ mentioned_at l.at l.fn.cells (drop l.mention-index l.mention-items)
