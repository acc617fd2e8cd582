use Rattle.std.proofs.Common.{◌≡◌, Ok, drop, map}
use Rattle.cg_check_context.specs.View.{entries_of, types_in}
use Rattle.cg_check_pieces.specs.View.{bounds_of}
use Rattle.cg_check_def.specs.Pass.{Out, branches_test}
use Rattle.cg_core.specs.Kernels.{function_of}
use Rattle.cg_check_context.proofs.tests.branches.Given as goal

abbrev pub invariant-loop-i : goal.invariant-loop-i
invariant-loop-i l =
    ◌≡◌ {A = Out (Unit {0})}
    (branches_test (map function_of l.source.functions.now) (bounds_of l.source.vars.now) l.first l.second (types_in (entries_of (drop l.i l.context.items))) (drop l.i l.us) (drop l.i l.vs) (Ok tt))
    (branches_test (map function_of l.source.functions.now) (bounds_of l.source.vars.now) l.first l.second (types_in (entries_of l.context.items)) l.us l.vs (Ok tt))
