use Rattle.std.proofs.Common.{◌≡◌, length}
use Rattle.cg_parser_exprs_def.specs.Machine as machine
use Rattle.cg_parser_build.specs.Bounded.{bounded}
use Rattle.cg_parser_build.specs.Views.{view_of}
use Rattle.cg_parser_exprs_def.specs.Held.{types, patterns}
use Rattle.cg_parser_exprs_frames.specs.Stack.{stack_of}
use Rattle.cg_parser_exprs_frames.proofs.close.close.Given as goal

abbrev pub invariant-loop-tree : goal.invariant-loop-tree
invariant-loop-tree l =
    machine.closed types patterns bounded l.fn.loosest (view_of l.fn.tree) (stack_of l.fn.stack)
    ≡ machine.closed types patterns bounded l.loosest (view_of l.tree) (stack_of l.stack)

abbrev pub decreases-loop-tree : goal.decreases-loop-tree
decreases-loop-tree l = length (stack_of l.stack)
