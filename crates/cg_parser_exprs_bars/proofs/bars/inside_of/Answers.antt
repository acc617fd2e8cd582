use Rattle.std.proofs.Common.{ap, ◌∙◌, sym, take, ◌-◌, List, ℕ, arith}
use Rattle.cg_parser_exprs_def.specs.Bars.{inside_of}
use Rattle.cg_parser_exprs_bars.specs.Walk.{opens}
use Rattle.cg_parser_exprs_bars.specs.declared.bars.Link.TheVariants.{Ends, Leaves, Bar}
use Rattle.cg_parser_exprs_frames.specs.declared.frame.Frame.{Frame}
use Rattle.cg_parser_exprs_bars.proofs.Walk.{frames_in, in_slice, down, bottom, plus, same_column, other_column}
use Rattle.cg_parser_exprs_bars.proofs.bars.inside_of.Goals as goal

pub returns-in-Ends : goal.returns-in-Ends
returns-in-Ends c =
    let frames : List Frame = c.as_slice-frames.result.now in
    let n : ℕ = c.args.column in
    sym (ap (inside_of n) (in_slice c.as_slice-frames.result.now c.args.stack.now c.as_slice-frames.ensures) ∙ c.loop-at.invariant.same
    ∙ ap (λ os. plus c.loop-at.inside (inside_of n os)) (down frames c.loop-at.at c.index-frames-at.result Ends c.loop-at-test.true c.loop-at.auto.at c.index-frames-at.is c.in-Ends.ensures))

pub loop-at-preserved-in-Leaves : goal.loop-at-preserved-in-Leaves
loop-at-preserved-in-Leaves c =
    let frames : List Frame = c.as_slice-frames.result.now in
    let n : ℕ = c.args.column in
    record {
      room = omega arith;
      same = c.loop-at.invariant.same
          ∙ ap (λ os. plus c.loop-at.inside (inside_of n os)) (down frames c.loop-at.at c.index-frames-at.result Leaves c.loop-at-test.true c.loop-at.auto.at c.index-frames-at.is c.in-Leaves.ensures);
    }

pub returns-then-bar-column : goal.returns-then-bar-column
returns-then-bar-column c =
    let frames : List Frame = c.as_slice-frames.result.now in
    let n : ℕ = c.args.column in
    sym (ap (inside_of n) (in_slice c.as_slice-frames.result.now c.args.stack.now c.as_slice-frames.ensures) ∙ c.loop-at.invariant.same
    ∙ ap (λ os. plus c.loop-at.inside (inside_of n os)) (down frames c.loop-at.at c.index-frames-at.result (Bar c.in-Bar.bar) c.loop-at-test.true c.loop-at.auto.at c.index-frames-at.is c.in-Bar.ensures)
    ∙ same_column n c.in-Bar.bar c.loop-at.inside (opens (frames_in (take (c.loop-at.at - 1) frames))) c.if-bar-column.true)

pub loop-at-preserved : goal.loop-at-preserved
loop-at-preserved c =
    let frames : List Frame = c.as_slice-frames.result.now in
    let n : ℕ = c.args.column in
    record {
      room = omega arith;
      same = c.loop-at.invariant.same
          ∙ ap (λ os. plus c.loop-at.inside (inside_of n os)) (down frames c.loop-at.at c.index-frames-at.result (Bar c.in-Bar.bar) c.loop-at-test.true c.loop-at.auto.at c.index-frames-at.is c.in-Bar.ensures)
          ∙ other_column n c.in-Bar.bar c.loop-at.inside (opens (frames_in (take (c.loop-at.at - 1) frames))) c.if-bar-column.false;
    }

pub returns : goal.returns
returns c =
    sym (ap (inside_of c.args.column) (in_slice c.as_slice-frames.result.now c.args.stack.now c.as_slice-frames.ensures) ∙ c.loop-at.invariant.same
    ∙ ap (λ os. plus c.loop-at.inside (inside_of c.args.column os)) (bottom c.as_slice-frames.result.now c.loop-at.at c.loop-at-test.false))
