use Rattle.std.proofs.Common.{ap, ◌∙◌, sym}
use Rattle.cg_parser_build.specs.Bounded.{bounded}
use Rattle.cg_parser_exprs_def.specs.Machine as machine
use Rattle.cg_parser_exprs_def.specs.Held.{types, patterns}
use Rattle.cg_parser_exprs_frames.specs.Stack.{frame_of, stack_of}
use Rattle.cg_parser_build.specs.Views.{view_of}
use Rattle.cg_parser_exprs_bars.specs.Walk.{next_at}
use Rattle.cg_parser_exprs_bars.proofs.Joined.{closed, reached, arrives}
use Rattle.cg_parser_exprs_bars.proofs.matches.joined.Goals as goal

pub loop-frame-preserved-then-not-is_match : goal.loop-frame-preserved-then-not-is_match
loop-frame-preserved-then-not-is_match c =
    c.loop-frame.invariant
    ∙ ap (λ fs. machine.joined types patterns bounded c.loop-frame.inside (view_of c.loop-frame.tree) (stack_of fs)) c.in-Some.ensures
    ∙ closed c.loop-frame.inside (view_of c.loop-frame.tree) (view_of c.in_ok-tree.tree) (frame_of c.in-Some.frame) (stack_of c.pop.new.self) c.closes.result (sym c.is_match.ensures ∙ c.if-not-is_match.true) c.closes.ensures c.if-closes-gt12.false c.in_ok-tree.ensures

pub returns-then-inside-eq0 : goal.returns-then-inside-eq0
returns-then-inside-eq0 c =
    arrives c.on_match.result (stack_of c.on_match.new.stack) (machine.joined types patterns bounded c.args.inside (view_of c.args.tree) (stack_of c.args.stack.now)) (next_at (frame_of c.in-Some.frame) (view_of c.loop-frame.tree) (stack_of c.pop.new.self)) c.on_match.ensures
    (c.loop-frame.invariant
    ∙ ap (λ fs. machine.joined types patterns bounded c.loop-frame.inside (view_of c.loop-frame.tree) (stack_of fs)) c.in-Some.ensures
    ∙ reached c.loop-frame.inside (view_of c.loop-frame.tree) (frame_of c.in-Some.frame) (stack_of c.pop.new.self) (sym c.is_match.ensures ∙ c.if-not-is_match.false) c.if-inside-eq0.true)
