use Rattle.std.proofs.Common.{take}
use Rattle.cg_cmachine_resolve.specs.Queues.{AreLines, HaveJoined, block_weight, waiting}
use Rattle.cg_cmachine_resolve.specs.Variables.{scope_at}
use Rattle.cg_ctree.specs.Trees.{block_of}
use Rattle.cg_cmachine_resolve.proofs.resolve.block.Given as goal

abbrev pub invariant-loop-stmt : goal.invariant-loop-stmt
invariant-loop-stmt l =
    AreLines l.setting.whole (scope_at l.setting) (waiting l.queue.items) (take l.stmt-index l.stmts) l.lines.items
    × HaveJoined (block_weight (block_of (take l.stmt-index l.stmts))) (waiting l.fn.queue.items) (waiting l.queue.items)
