use Rattle.std.proofs.Common.{ap, ◌∙◌, sym, take, ◌-◌, List}
use Rattle.cg_parser_types.specs.Stack.{frame_of}
use Rattle.cg_parser_types.specs.States.{all_close}
use Rattle.cg_parser_types.specs.declared.frame.Frame.{Frame}
use Rattle.cg_parser_types.proofs.Whole.{frames_in, in_slice, top, bottom, closes_on, closes_not}
use Rattle.cg_parser_types.proofs.close.all_close.Goals as goal

pub returns-then-closes-gt3 : goal.returns-then-closes-gt3
returns-then-closes-gt3 c =
    let frames : List Frame = c.as_slice-frames.result.now in
    let f : Frame = c.index-frames-at.result in
    sym (in_slice c.as_slice-frames.result.now c.args.stack.now c.as_slice-frames.ensures ∙ c.loop-at.invariant
    ∙ ap all_close (top frames c.loop-at.at f c.loop-at-test.true c.loop-at.auto.at c.index-frames-at.is)
    ∙ closes_not (frame_of f) (frames_in (take (c.loop-at.at - 1) frames)) c.closes.result c.closes.ensures c.if-closes-gt3.true)

pub loop-at-preserved : goal.loop-at-preserved
loop-at-preserved c =
    let frames : List Frame = c.as_slice-frames.result.now in
    let f : Frame = c.index-frames-at.result in
    c.loop-at.invariant
    ∙ ap all_close (top frames c.loop-at.at f c.loop-at-test.true c.loop-at.auto.at c.index-frames-at.is)
    ∙ closes_on (frame_of f) (frames_in (take (c.loop-at.at - 1) frames)) c.closes.result c.closes.ensures c.if-closes-gt3.false

pub returns : goal.returns
returns c =
    sym (in_slice c.as_slice-frames.result.now c.args.stack.now c.as_slice-frames.ensures ∙ c.loop-at.invariant
    ∙ ap all_close (bottom c.as_slice-frames.result.now c.loop-at.at c.loop-at-test.false))
