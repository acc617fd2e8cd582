use Rattle.std.proofs.Common.{arith, map}
use Rattle.cg_eval_def.specs.Foreigns.{table_of}
use Rattle.cg_eval_machine.specs.Machine.{rest, context_of}
use Rattle.cg_base.specs.Types.{type_of}
use Rattle.cg_value.specs.Values.{value_of}
use Rattle.cg_eval_machine.proofs.Steps as steps
use Rattle.cg_eval_machine.proofs.calls.call_library.Goals as goal

pub returns-else-is_iterator-clause-gives : goal.returns-else-is_iterator-clause-gives
returns-else-is_iterator-clause-gives c = λ x.
    let table = table_of x c.args.checked.now in
    let e = steps.asks_library table c.args.lib (map type_of c.args.types.now) (value_of c.args.arg) (rest table c.args.m.now.frames.items (context_of c.args.m.now)) c.args.m.now.left in
    grind (arith, e, c.ask_library.ensures.gives table)

pub returns-then-is_iterator-clause-gives : goal.returns-then-is_iterator-clause-gives
returns-then-is_iterator-clause-gives c = λ x. grind (arith, c.iterate.ensures.gives x)
