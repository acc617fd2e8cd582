use Rattle.std.proofs.Common.{◌≡◌, false, subst}
use Rattle.cg_eval_def.specs.Foreigns.{table_of}
use Rattle.cg_eval_machine.specs.Machine.{context_of, rest, Went}
use Rattle.cg_eval_operations.specs.Iterators.{stops}
use Rattle.cg_value.specs.Values.{value_of}
use Rattle.cg_eval_machine.proofs.Steps as steps
use Rattle.cg_eval_machine.proofs.calls.turned.Goals as goal

pub returns-clause-gives : goal.returns-clause-gives
returns-clause-gives c = λ x.
    let table = table_of x c.args.checked.now in
    let goes_on : stops c.args.turns.lib (value_of c.args.value) ≡ false = cc in
    let same = steps.turn_goes_on table c.args.at c.args.turns c.args.array (value_of c.args.value) (value_of c.changed-array.result) (value_of c.carried-handed_on.result) c.next_turn-next.result
    (rest table c.args.m.now.frames.items) (context_of c.args.m.now) c.args.m.now.left goes_on c.next_turn-next.ensures c.changed-array.ensures c.carried-handed_on.ensures in
    subst (λ o. Went table c.take_turns.new.m o c.take_turns.result) same (c.take_turns.ensures.gives x)
