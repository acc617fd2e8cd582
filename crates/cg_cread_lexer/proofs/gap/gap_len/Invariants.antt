use Rattle.std.proofs.Common.{◌-◌, length}
use Rattle.cg_cread_lexer.specs.Front.{IsSpace}
use Rattle.cg_cread_lexer.proofs.gap.gap_len.Given as goal

abbrev pub invariant-loop-len : goal.invariant-loop-len
invariant-loop-len l = IsSpace l.bytes l.len

abbrev pub decreases-loop-len : goal.decreases-loop-len
decreases-loop-len l = length l.bytes - l.len
