use Rattle.std.proofs.Common.{◌+◌, ◌≤◌, length, Some}
use Rattle.cg_heaptext_entries.specs.Passes.{IsNoLonger}
use Rattle.cg_heaptext_entries.proofs.Skips.{Going}
use Rattle.cg_heaptext_entries.proofs.skip.skip_inside.Given as goal

abbrev pub invariant-loop-depth : goal.invariant-loop-depth
invariant-loop-depth l = record {
  within : l.depth + length l.lexer.rest ≤ l.most;
  shorter : IsNoLonger l.fn.lexer l.lexer;
  going : Going l.fn.lexer l.lexer (Some l.depth);
}

abbrev pub decreases-loop-depth : goal.decreases-loop-depth
decreases-loop-depth l = length l.lexer.rest
