use Rattle.std.proofs.Common.{◌++◌, ap, ◌∙◌}
use Rattle.std.proofs.lemmas.List.{take_all}
use Rattle.cg_lower_nodes.proofs.MoveSteps.{moved_more}
use Rattle.cg_lower_nodes.proofs.state.append.Goals as goal

pub loop-stmt-preserved : goal.loop-stmt-preserved
loop-stmt-preserved c =
    moved_more c.args.stmts.now c.loop-stmt.stmts c.push.new.self c.loop-stmt.stmt-items c.as_mut_slice-stmt-items.result.now c.loop-stmt.stmt-index c.replace.result c.replace.new.dest
    c.loop-stmt-test.true c.loop-stmt.invariant.0 c.loop-stmt.invariant.1 (cc) c.in_ok-push.ensures.ok

pub returns : goal.returns
returns c =
    c.loop-stmt.invariant.0
    ∙ ap (λ stmts. c.args.stmts.now ++ stmts)
    (take_all c.loop-stmt.stmt-index c.as_mut_slice-stmt-items.result.now c.loop-stmt-test.false ∙ c.as_mut_slice-stmt-items.ensures.value)
