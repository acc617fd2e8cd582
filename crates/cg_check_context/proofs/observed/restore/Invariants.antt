use Rattle.std.proofs.Common.{◌≡◌, ◌++◌, length, take, drop}
use Rattle.cg_check_context.specs.Observed.{with_flags}
use Rattle.cg_check_context.specs.View.{entries_of}
use Rattle.cg_check_context.proofs.observed.restore.Given as goal

abbrev pub invariant-loop-i : goal.invariant-loop-i
invariant-loop-i l =
    (length l.context.items ≡ length l.initial.context.items)
    × (entries_of l.context.items ≡ take l.i (with_flags l.flags.items (entries_of l.initial.context.items)) ++ drop l.i (entries_of l.initial.context.items))
