use Rattle.std.proofs.Common.{◌+◌, ◌≤◌, length}
use Rattle.cg_heaptext_values.specs.Turns.{lead}
use Rattle.cg_heaptext_values.proofs.Going.{Going}
use Rattle.cg_heaptext_values.proofs.layers.lead.Given as goal

abbrev pub invariant-loop-count : goal.invariant-loop-count
invariant-loop-count l = record {
  within : l.count + length l.lexer.rest ≤ l.most;
  going : Going l.fn.lexer l.lexer lead (λ ts. l.count + lead ts);
}

abbrev pub decreases-loop-count : goal.decreases-loop-count
decreases-loop-count l = length l.lexer.rest
