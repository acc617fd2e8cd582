use Rattle.std.proofs.Common.{◌∙◌, ap}
use Rattle.cg_cmachine_resolve.specs.Queues.{waiting}
use Rattle.cg_cmachine_resolve.specs.Variables.{scope_at}
use Rattle.cg_cmachine_resolve.proofs.Grows.{does_any}
use Rattle.cg_cmachine_resolve.proofs.Queues.{if_joins, on_ok, switch_joins, while_joins}
use Rattle.cg_ctree.specs.declared.tree.CStmt.{out-CStmt, the_lemmas}
use Rattle.cg_ctree.specs.declared.tree.CStmt.TheOpen as form
use Rattle.cg_cmachine_resolve.proofs.resolve.action.Goals as goal

pub returns-in-Assign-clause-does : goal.returns-in-Assign-clause-does
returns-in-Assign-clause-does c =
    does_any c.args.setting.now.whole (scope_at c.args.setting.now) (waiting c.args.queue.now.items) c.assign.result c.args.stmt.now (form.Assign c.in-Assign.path c.in-Assign.right)
    (ap out-CStmt c.in-Assign.is ∙ search the_lemmas) c.assign.ensures

pub returns-in-If-clause-joins : goal.returns-in-If-clause-joins
returns-in-If-clause-joins c =
    on_ok c.branch-setting.result c.branch-setting.ensures.joins
    (if_joins c.args.stmt.now c.in-If.operand c.in-If.yes c.in-If.no c.as_slice.result.now c.as_slice-in-If.result.now (waiting c.args.queue.now.items) (waiting c.branch-setting.new.queue.items) c.in-If.is c.as_slice.ensures c.as_slice-in-If.ensures)

pub returns-in-While-clause-joins : goal.returns-in-While-clause-joins
returns-in-While-clause-joins c =
    on_ok c.repeat.result c.repeat.ensures.joins
    (while_joins c.args.stmt.now c.in-While.operand c.in-While.body c.as_slice-in-While.result.now (waiting c.args.queue.now.items) (waiting c.repeat.new.queue.items) c.in-While.is c.as_slice-in-While.ensures)

pub returns-in-Switch-clause-joins : goal.returns-in-Switch-clause-joins
returns-in-Switch-clause-joins c =
    on_ok c.switch.result c.switch.ensures.joins
    (switch_joins c.args.stmt.now c.in-Switch.operand c.in-Switch.arms c.as_slice-in-Switch.result.now (waiting c.args.queue.now.items) (waiting c.switch.new.queue.items) c.in-Switch.is c.as_slice-in-Switch.ensures)

pub returns-in-Call-clause-does : goal.returns-in-Call-clause-does
returns-in-Call-clause-does c =
    does_any c.args.setting.now.whole (scope_at c.args.setting.now) (waiting c.args.queue.now.items) c.call.result c.args.stmt.now (form.Call c.in-Call.name c.in-Call.list)
    (ap out-CStmt c.in-Call.is ∙ search the_lemmas) (rw c.as_slice-in-Call.ensures at c.call.ensures)
