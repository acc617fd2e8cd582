use Rattle.std.proofs.Common.{◌≡◌, Ok, drop, map}
use Rattle.cg_check_context.specs.View.{entries_of, types_in}
use Rattle.cg_check_pieces.specs.View.{bounds_of}
use Rattle.cg_check_def.specs.Pass.{Out, observers_test}
use Rattle.cg_core.specs.Kernels.{function_of}
use Rattle.cg_check_context.proofs.tests.observe_all.Given as goal

abbrev pub invariant-loop-observer : goal.invariant-loop-observer
invariant-loop-observer l =
    ◌≡◌ {A = Out (Unit {0})}
    (observers_test (map function_of l.source.functions.now) (bounds_of l.source.vars.now) (types_in (entries_of l.context.items)) l.before.items (drop l.observer-index l.observer-items) (Ok tt))
    (observers_test (map function_of l.source.functions.now) (bounds_of l.source.vars.now) (types_in (entries_of l.context.items)) l.before.items l.observer-items (Ok tt))
