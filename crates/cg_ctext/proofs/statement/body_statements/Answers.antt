use Rattle.cg_ctext.proofs.Waiting.{begins_all, falls}
use Rattle.cg_ctext.proofs.statement.body_statements.Goals as goal

pub loop-task-init : goal.loop-task-init
loop-task-init c = begins_all c.args.text.now.items c.new-tasks.result.items c.push.new.self.items c.args.stmts c.new-tasks.ensures.items c.in_ok-push.ensures.items

pub loop-task-smaller : goal.loop-task-smaller
loop-task-smaller c =
    falls c.loop-task.text.items c.step.new.text.items c.loop-task.tasks.items c.pop.new.self.items c.step.new.tasks.items c.in-Some.task c.in-Some.ensures.items c.in_ok-step.ensures.prints c.in_ok-step.ensures.grows
