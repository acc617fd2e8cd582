use Rattle.std.proofs.Common.{◌≡◌, length}
use Rattle.cg_parser_exprs_def.specs.Machine as machine
use Rattle.cg_parser_build.specs.Bounded.{bounded}
use Rattle.cg_parser_build.specs.Views.{view_of}
use Rattle.cg_parser_exprs_def.specs.Held.{types, patterns}
use Rattle.cg_parser_exprs_frames.specs.Stack.{stack_of}
use Rattle.cg_parser_exprs_bars.proofs.matches.joined.Given as goal

abbrev pub invariant-loop-frame : goal.invariant-loop-frame
invariant-loop-frame l =
    machine.joined types patterns bounded l.fn.inside (view_of l.fn.tree) (stack_of l.fn.stack)
    ≡ machine.joined types patterns bounded l.inside (view_of l.tree) (stack_of l.stack)

abbrev pub decreases-loop-frame : goal.decreases-loop-frame
decreases-loop-frame l = length (stack_of l.stack)
