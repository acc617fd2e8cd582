use Rattle.std.proofs.Common.{arith}
use Rattle.cg_eval_def.specs.Foreigns.{table_of}
use Rattle.cg_eval_machine.specs.Machine.{rest, context_of}
use Rattle.cg_value.specs.Values.{value_of}
use Rattle.cg_eval_machine.proofs.Steps as steps
use Rattle.cg_eval_machine.proofs.calls.take_turns.Goals as goal

pub returns-in_ok-ended-in-None-clause-gives : goal.returns-in_ok-ended-in-None-clause-gives
returns-in_ok-ended-in-None-clause-gives c = λ x.
    let table = table_of x c.args.checked.now in
    let e = steps.turn_none table c.args.turns (value_of c.args.array) (value_of c.args.handed_on) (rest table c.args.m.now.frames.items (context_of c.args.m.now)) c.args.m.now.left in
    grind arith

pub returns-in-Some-clause-gives : goal.returns-in-Some-clause-gives
returns-in-Some-clause-gives c = λ x. grind (arith, c.take_turn.ensures.gives x)
