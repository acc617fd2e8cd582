use Rattle.std.proofs.Common.{◌≡◌, take}
use Rattle.cg_parser_exprs_bars.specs.Walk.{opens, innermost}
use Rattle.cg_parser_exprs_bars.proofs.Walk.{frames_in}
use Rattle.cg_parser_exprs_bars.proofs.bars.innermost.Given as goal

abbrev pub invariant-loop-at : goal.invariant-loop-at
invariant-loop-at l = innermost (opens (frames_in l.frames)) ≡ innermost (opens (frames_in (take l.at l.frames)))
