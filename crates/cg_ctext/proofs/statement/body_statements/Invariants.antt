use Rattle.std.proofs.Common.{◌≡◌, ◌+◌, ◌++◌, length}
use Rattle.cg_ctree.specs.Trees.{block_of}
use Rattle.cg_ctext.specs.Printed.{block_text}
use Rattle.cg_ctext.specs.Waiting.{waits}
use Rattle.cg_ctext.proofs.statement.body_statements.Given as goal

abbrev pub invariant-loop-task : goal.invariant-loop-task
invariant-loop-task l = l.text.items ++ waits l.tasks.items ≡ l.fn.text.items ++ block_text 1 (block_of l.stmts)

abbrev pub decreases-loop-task : goal.decreases-loop-task
decreases-loop-task l = length (waits l.tasks.items) + length l.tasks.items
