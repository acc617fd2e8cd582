use Rattle.std.proofs.Common.{slice_get, subst}
use Rattle.cg_core.specs.Kernels.{function_of, kernel_of}
use Rattle.cg_eval_def.specs.Foreigns.{table_of}
use Rattle.cg_eval_machine.specs.Machine.{context_of, rest, Went}
use Rattle.cg_typing.specs.Holds.{kernel_in}
use Rattle.cg_value.specs.Values.{value_of}
use Rattle.cg_eval.proofs.AskSteps.{known_is}
use Rattle.cg_eval.proofs.asking.ask.Goals as goal

pub returns-then-is_known-clause-gives : goal.returns-then-is_known-clause-gives
returns-then-is_known-clause-gives g c =
    let x = g.X.Extern.foreign c.args.externs.now in
    let table = table_of x c.args.checked.now in
    let same = known_is x (slice_get (kernel_of (kernel_in c.args.checked.now)) c.args.fun) (function_of c.in-Some.function.now) (value_of c.args.arg) c.args.m.now.left
    (rest table c.args.m.now.frames.items (context_of c.args.m.now)) c.in-Some.ensures c.requires in
    subst (λ o. Went table c.ask_known.new.m o c.ask_known.result) same (c.ask_known.ensures.gives table)
