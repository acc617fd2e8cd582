use Rattle.std.proofs.Common.{◌≡◌}
use Rattle.cg_eval_def.specs.Foreigns.{table_of}
use Rattle.cg_eval_machine.specs.Machine.{said, weight}
use Rattle.cg_eval.proofs.evaluator.run.Given as goal

abbrev pub invariant-loop-focus : goal.invariant-loop-focus
invariant-loop-focus g l =
    let table = table_of (g.X.Extern.foreign l.externs) l.checked in said table l.m l.focus ≡ said table l.fn.start l.fn.first

abbrev pub decreases-loop-focus : goal.decreases-loop-focus
decreases-loop-focus g l = weight l.m l.focus
