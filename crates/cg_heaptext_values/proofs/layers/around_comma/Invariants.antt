use Rattle.std.proofs.Common.{◌+◌, ◌≤◌, length}
use Rattle.cg_heaptext_values.specs.Turns.{seeking, sought}
use Rattle.cg_heaptext_values.proofs.Going.{Going}
use Rattle.cg_heaptext_values.proofs.layers.around_comma.Given as goal

abbrev pub invariant-loop-depth : goal.invariant-loop-depth
invariant-loop-depth l = record {
  within : l.depth + length l.lexer.rest ≤ l.left;
  going : Going l.fn.lexer l.lexer (sought (seeking 0 (l.fn.most + 1))) (sought (seeking l.depth (l.least + 1)));
}

abbrev pub decreases-loop-depth : goal.decreases-loop-depth
decreases-loop-depth l = length l.lexer.rest
