use Rattle.std.proofs.Common.{map, take}
use Rattle.cg_cmachine_resolve.specs.Lines.{AreCases, Whole}
use Rattle.cg_cmachine_resolve.specs.Scopes.{Scope}
use Rattle.cg_cmachine_resolve.specs.Queues.{HaveJoined, cases_weight, waiting}
use Rattle.cg_ctree.specs.Trees.{case_of, to_cases}
use Rattle.cg_cmachine_resolve.proofs.queue.enqueue_cases.Given as goal

abbrev pub invariant-loop-arm : goal.invariant-loop-arm
invariant-loop-arm l =
    ((w : Whole) (vs : Scope) → AreCases w vs (waiting l.queue.items) (take l.arm-index l.arms) l.cases.items)
    × HaveJoined (cases_weight (to_cases (map case_of (take l.arm-index l.arms)))) (waiting l.fn.queue.items) (waiting l.queue.items)
