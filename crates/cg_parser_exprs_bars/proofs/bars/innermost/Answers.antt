use Rattle.std.proofs.Common.{ap, ◌∙◌, sym, List}
use Rattle.cg_parser_exprs_bars.specs.Walk.{innermost}
use Rattle.cg_parser_exprs_bars.specs.declared.bars.Link.TheVariants.{Ends, Leaves, Bar}
use Rattle.cg_parser_exprs_frames.specs.declared.frame.Frame.{Frame}
use Rattle.cg_parser_exprs_bars.proofs.Walk.{in_slice, down, bottom}
use Rattle.cg_parser_exprs_bars.proofs.bars.innermost.Goals as goal

pub returns-in-Ends : goal.returns-in-Ends
returns-in-Ends c =
    let frames : List Frame = c.as_slice-frames.result.now in
    sym (ap innermost (in_slice c.as_slice-frames.result.now c.args.stack.now c.as_slice-frames.ensures) ∙ c.loop-at.invariant
    ∙ ap innermost (down frames c.loop-at.at c.index-frames-at.result Ends c.loop-at-test.true c.loop-at.auto.at c.index-frames-at.is c.in-Ends.ensures))

pub returns-in-Bar : goal.returns-in-Bar
returns-in-Bar c =
    let frames : List Frame = c.as_slice-frames.result.now in
    sym (ap innermost (in_slice c.as_slice-frames.result.now c.args.stack.now c.as_slice-frames.ensures) ∙ c.loop-at.invariant
    ∙ ap innermost (down frames c.loop-at.at c.index-frames-at.result (Bar c.in-Bar.column) c.loop-at-test.true c.loop-at.auto.at c.index-frames-at.is c.in-Bar.ensures))

pub loop-at-preserved : goal.loop-at-preserved
loop-at-preserved c =
    c.loop-at.invariant
    ∙ ap innermost (down c.as_slice-frames.result.now c.loop-at.at c.index-frames-at.result Leaves c.loop-at-test.true c.loop-at.auto.at c.index-frames-at.is c.in-Leaves.ensures)

pub returns : goal.returns
returns c =
    sym (ap innermost (in_slice c.as_slice-frames.result.now c.args.stack.now c.as_slice-frames.ensures) ∙ c.loop-at.invariant
    ∙ ap innermost (bottom c.as_slice-frames.result.now c.loop-at.at c.loop-at-test.false))
