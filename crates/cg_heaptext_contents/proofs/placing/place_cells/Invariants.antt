use Rattle.cg_base.specs.Types.{Tau}
use Rattle.cg_heaptext_def.specs.Trees.{Heap}
use Rattle.cg_heaptext_entries.specs.Index.{AreEntries}
use Rattle.cg_heaptext_contents.specs.Placings.{AreRead}
use Rattle.cg_heaptext_contents.proofs.PlacingSteps.{PlacedSoFar}
use Rattle.cg_heaptext_contents.proofs.placing.place_cells.Given as goal

abbrev pub invariant-loop-at : goal.invariant-loop-at
invariant-loop-at l = (h : Heap) (t : Tau) → AreEntries l.fn.entries h.entries → AreRead h t l.fn.mentions → PlacedSoFar h t l.at l.placing
