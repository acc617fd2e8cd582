use Rattle.std.proofs.Common.{◌+◌, ◌≤◌, length, Some}
use Rattle.cg_heaptext_mentions.proofs.Walk.{Scanned}
use Rattle.cg_heaptext_mentions.proofs.scan.scan.Given as goal

abbrev pub invariant-loop-lexer : goal.invariant-loop-lexer
invariant-loop-lexer l = record {
  within : l.depth + length l.lexer.rest ≤ l.most;
  scanned : Scanned l.addresses l.fn.from l.lexer (Some l.depth) l.fn.before l.found;
}

abbrev pub decreases-loop-lexer : goal.decreases-loop-lexer
decreases-loop-lexer l = length l.lexer.rest
