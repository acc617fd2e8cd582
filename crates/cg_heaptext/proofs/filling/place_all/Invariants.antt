use Rattle.std.proofs.Common.{length, map}
use Rattle.cg_heaptext.proofs.OneByOne.{IsUnderWay}
use Rattle.cg_heaptext_contents.specs.Placings.{pair_of}
use Rattle.cg_heaptext.proofs.filling.place_all.Given as goal

abbrev pub invariant-loop-placed : goal.invariant-loop-placed
invariant-loop-placed g l = IsUnderWay (map pair_of l.fn.cells) (map pair_of l.left) (g.S.Store.stored l.store)

abbrev pub decreases-loop-placed : goal.decreases-loop-placed
decreases-loop-placed g l = length l.left
