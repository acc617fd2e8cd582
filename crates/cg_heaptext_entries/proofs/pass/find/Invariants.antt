use Rattle.std.proofs.Common.{◌≤◌, length}
use Rattle.cg_heaptext_entries.proofs.Entries.{AllGoing}
use Rattle.cg_heaptext_entries.proofs.pass.find.Given as goal

abbrev pub invariant-loop-token : goal.invariant-loop-token
invariant-loop-token l = record {
  within : length l.lexer.rest ≤ length l.bytes;
  going : AllGoing l.bytes l.entries l.lexer;
}

abbrev pub decreases-loop-token : goal.decreases-loop-token
decreases-loop-token l = length l.lexer.rest
