use Rattle.std.proofs.Common.{◌≡◌, ◌+◌, drop, map}
use Rattle.cg_cmachine_layout.specs.Kinds.{layout_of}
use Rattle.cg_cmachine.specs.Answering.{sum_sizes}
use Rattle.cg_cmachine.proofs.answer.sum.Given as goal

abbrev pub invariant-loop-kind : goal.invariant-loop-kind
invariant-loop-kind l = l.sum + sum_sizes (map layout_of (drop l.kind-index l.kinds)) ≡ sum_sizes (map layout_of l.fn.kinds)
