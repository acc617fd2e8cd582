use Rattle.std.proofs.Common.{arith, ◌-◌, subst}
use Rattle.cg_eval_def.specs.Foreigns.{table_of}
use Rattle.cg_eval_machine.specs.Machine.{context_of, Went}
use Rattle.cg_value.specs.Values.{value_of}
use Rattle.cg_eval_machine.proofs.Steps as steps
use Rattle.cg_eval_machine.proofs.calls.take_turn.Goals as goal

pub returns-clause-gives : goal.returns-clause-gives
returns-clause-gives c = λ x.
    let table = table_of x c.args.checked.now in
    let same = steps.turn_begins table c.args.at c.args.turns c.args.array (value_of c.args.handed_on) (value_of c.in_ok-function.function) (value_of c.in_ok-arg.arg) c.args.m.now.frames.items c.push.new.self.items (context_of c.args.m.now) c.args.m.now.left (c.args.m.now.left - 1) (omega arith)
    c.in_ok-push.ensures.items c.in_ok-function.ensures c.in_ok-arg.ensures in
    subst (λ o. Went table c.call.new.m o c.call.result) same (c.call.ensures.gives x)
