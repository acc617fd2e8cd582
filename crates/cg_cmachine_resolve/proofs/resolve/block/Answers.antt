use Rattle.std.proofs.Common.{[], refl, subst, take_all}
use Rattle.cg_cmachine_resolve.specs.Queues.{AreLines, HaveJoined, block_weight, statement_weight, waiting}
use Rattle.cg_cmachine_resolve.specs.Variables.{scope_at}
use Rattle.cg_cmachine_resolve.proofs.Bodies.{lines_turn}
use Rattle.cg_cmachine_resolve.proofs.Queues.{blocks_turn, joined_none}
use Rattle.cg_ctree.specs.Trees.{block_of, stmt_of}
use Rattle.cg_cmachine_resolve.proofs.resolve.block.Goals as goal

pub loop-stmt-init : goal.loop-stmt-init
loop-stmt-init c = (rw c.new-lines.ensures.items (record { same = refl; stand = tt }), joined_none (block_weight (block_of [])) (waiting c.args.queue.now.items) (waiting c.args.queue.now.items) refl)

pub loop-stmt-preserved : goal.loop-stmt-preserved
loop-stmt-preserved c = (
  lines_turn c.args.setting.now.whole (scope_at c.args.setting.now) (statement_weight (stmt_of c.stmt-item.result)) (waiting c.loop-stmt.queue.items) (waiting c.push_line.new.queue.items) c.args.stmts.now c.loop-stmt.stmt-index
      c.stmt-item.result c.loop-stmt.lines.items c.push_line.new.lines.items c.loop-stmt-test.true c.stmt-item.is c.loop-stmt.invariant.0 c.in_ok-push_line.ensures.joins c.in_ok-push_line.ensures.line,
  blocks_turn c.args.stmts.now c.loop-stmt.stmt-index c.stmt-item.result (waiting c.args.queue.now.items) (waiting c.loop-stmt.queue.items) (waiting c.push_line.new.queue.items) c.loop-stmt-test.true c.stmt-item.is
      c.loop-stmt.invariant.1 c.in_ok-push_line.ensures.joins,
)

pub returns-clause-lines : goal.returns-clause-lines
returns-clause-lines c =
    subst (λ ss. AreLines c.args.setting.now.whole (scope_at c.args.setting.now) (waiting c.loop-stmt.queue.items) ss c.loop-stmt.lines.items)
    (take_all c.loop-stmt.stmt-index c.args.stmts.now c.loop-stmt-test.false) c.loop-stmt.invariant.0

pub returns-clause-joins : goal.returns-clause-joins
returns-clause-joins c =
    subst (λ ss. HaveJoined (block_weight (block_of ss)) (waiting c.args.queue.now.items) (waiting c.loop-stmt.queue.items))
    (take_all c.loop-stmt.stmt-index c.args.stmts.now c.loop-stmt-test.false) c.loop-stmt.invariant.1
