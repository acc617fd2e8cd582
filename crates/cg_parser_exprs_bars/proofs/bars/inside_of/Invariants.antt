use Rattle.std.proofs.Common.{◌≡◌, ◌≤◌, ◌+◌, take, length}
use Rattle.cg_parser_exprs_def.specs.Bars.{inside_of}
use Rattle.cg_parser_exprs_bars.specs.Walk.{opens}
use Rattle.cg_parser_exprs_bars.proofs.Walk.{frames_in, plus}
use Rattle.cg_parser_exprs_bars.proofs.bars.inside_of.Given as goal

abbrev pub invariant-loop-at : goal.invariant-loop-at
invariant-loop-at l = record {
  room : l.inside + l.at ≤ length l.frames;
  same : inside_of l.column (opens (frames_in l.frames)) ≡ plus l.inside (inside_of l.column (opens (frames_in (take l.at l.frames))));
}
