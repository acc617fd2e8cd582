use Rattle.std.proofs.Common.{◌≡◌, map, drop, None}
use Rattle.cg_heaptext_mentions.specs.Judged.{numerals_after}
use Rattle.cg_heaptext_mentions.proofs.Cells.{address_of}
use Rattle.cg_heaptext_mentions.proofs.pass.entry_out.Given as goal

abbrev pub invariant-loop-entry : goal.invariant-loop-entry
invariant-loop-entry l = numerals_after None (map address_of l.entries) ≡ numerals_after l.found (map address_of (drop l.entry-index l.entries))
