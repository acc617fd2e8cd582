use Rattle.std.proofs.Common.{◌≡◌, ◌+◌, ◌-◌, ◌≤◌, length, drop}
use Rattle.cg_lexer.specs.Front.{closing}
use Rattle.cg_lexer.proofs.gap.closing_len.Given as goal

abbrev pub invariant-loop-at : goal.invariant-loop-at
invariant-loop-at l = record {
  same : closing 0 l.bytes ≡ l.at + closing l.open (drop l.at l.bytes);
  within : l.at ≤ length l.bytes;
  room : l.open ≤ l.at;
}

abbrev pub decreases-loop-at : goal.decreases-loop-at
decreases-loop-at l = length l.bytes - l.at
