use Rattle.std.proofs.Common.{ℕ, List}
use Rattle.cg_heaptext_index.specs.Addresses.{IsMapOf}
use Rattle.cg_heaptext_mentions.specs.Judged.{lacks, mention_out_of_range}
use Rattle.cg_heaptext_mentions.proofs.Cells.{CellsGoing}
use Rattle.cg_heaptext_mentions.proofs.pass.scan_cells.Given as goal

abbrev pub invariant-loop-entry : goal.invariant-loop-entry
invariant-loop-entry l = record {
  absent : (ns : List ℕ) → IsMapOf l.addresses ns → CellsGoing (lacks ns) (λ m. m.place) l.entries l.fn.before.absent l.entry-index l.found.absent;
  out : CellsGoing mention_out_of_range (λ m. m.address.place) l.entries l.fn.before.out l.entry-index l.found.out;
}
