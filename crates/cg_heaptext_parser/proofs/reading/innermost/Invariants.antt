use Rattle.std.proofs.Common.{◌≡◌, length}
use Rattle.cg_heaptext_parser.specs.Outline as outline
use Rattle.cg_heaptext_parser.proofs.reading.innermost.Given as goal

abbrev pub invariant-loop-other : goal.invariant-loop-other
invariant-loop-other l = outline.closed l.fn.opened ≡ outline.closed l.opened

abbrev pub decreases-loop-other : goal.decreases-loop-other
decreases-loop-other l = length l.opened
