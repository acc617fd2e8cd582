use Rattle.std.proofs.Common.{◌≡◌, ◌+◌, drop}
use Rattle.cg_cread_lexer.specs.Front.{inside_length}
use Rattle.cg_cread_lexer.proofs.gap.inside_len.Given as goal

abbrev pub invariant-loop-i : goal.invariant-loop-i
invariant-loop-i l = inside_length l.bytes ≡ l.i + inside_length (drop l.i l.bytes)
