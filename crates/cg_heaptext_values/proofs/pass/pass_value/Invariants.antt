use Rattle.std.proofs.Common.{◌+◌, ◌≤◌, length}
use Rattle.cg_heaptext_values.specs.Turns.{inside, passed}
use Rattle.cg_heaptext_values.proofs.Going.{Going}
use Rattle.cg_heaptext_values.proofs.pass.pass_value.Given as goal

abbrev pub invariant-loop-depth : goal.invariant-loop-depth
invariant-loop-depth l = record {
  within : l.depth + length l.lexer.rest ≤ l.most;
  going : Going l.fn.lexer l.lexer (passed (inside 0)) (passed (inside l.depth));
}

abbrev pub decreases-loop-depth : goal.decreases-loop-depth
decreases-loop-depth l = length l.lexer.rest
