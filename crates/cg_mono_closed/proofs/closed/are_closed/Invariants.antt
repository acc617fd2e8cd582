use Rattle.std.proofs.Common.{◌≡◌, drop}
use Rattle.cg_core.specs.Terms.{arg_of}
use Rattle.cg_mono_closed.specs.Closed.{closed_arg}
use Rattle.cg_mono_closed.proofs.Loops.{seen_by}
use Rattle.cg_mono_closed.proofs.closed.are_closed.Given as goal

abbrev pub invariant-loop-arg : goal.invariant-loop-arg
invariant-loop-arg l = seen_by closed_arg arg_of l.arg-items ≡ seen_by closed_arg arg_of (drop l.arg-index l.arg-items)
