use Rattle.std.proofs.Common.{◌≡◌, take}
use Rattle.cg_parser_types.proofs.Whole.{frames_in}
use Rattle.cg_parser_types.specs.States.{all_close}
use Rattle.cg_parser_types.proofs.close.all_close.Given as goal

abbrev pub invariant-loop-at : goal.invariant-loop-at
invariant-loop-at l = all_close (frames_in l.frames) ≡ all_close (frames_in (take l.at l.frames))
