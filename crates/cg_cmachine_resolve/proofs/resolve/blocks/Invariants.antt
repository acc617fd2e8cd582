use Rattle.std.proofs.Common.{drop, length, map}
use Rattle.cg_cmachine_resolve.specs.Queues.{AreDone, blocks_weight, waiting}
use Rattle.cg_cmachine_resolve.specs.Variables.{scope_at}
use Rattle.cg_cmachine_resolve.proofs.resolve.blocks.Given as goal

abbrev pub invariant-loop-alloc : goal.invariant-loop-alloc
invariant-loop-alloc l = AreDone l.setting.whole (scope_at l.setting) (waiting l.queue.items) l.body.stmts (map (λ lines. lines.items) l.blocks.items)

abbrev pub decreases-loop-alloc : goal.decreases-loop-alloc
decreases-loop-alloc l = blocks_weight (drop (length (map (λ lines. lines.items) l.blocks.items)) (waiting l.queue.items))
