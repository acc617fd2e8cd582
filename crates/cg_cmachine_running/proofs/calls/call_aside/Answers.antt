use Rattle.std.proofs.Common.{◌≡◌, ◌∙◌, ap, arith, map, subst, sym}
use Rattle.cg_cmachine_def.specs.Outcomes.{Outcome, ok}
use Rattle.cg_cmachine_def.specs.Runs.{Flow}
use Rattle.cg_cmachine_values.specs.Values.{judged_all, value_of}
use Rattle.cg_cmachine_running.specs.Machine.{Follows}
use Rattle.cg_cmachine_running.specs.Statements.{called_aside}
use Rattle.cg_cmachine_running.proofs.Callees as callees
use Rattle.cg_cmachine_running.proofs.Steps.{lift_ok}
use Rattle.cg_cmachine_running.proofs.calls.call_aside.Goals as goal

pub returns-in-BuiltIn-clause-gives : goal.returns-in-BuiltIn-clause-gives
returns-in-BuiltIn-clause-gives g c =
    let r = c.args.run.now.program.now in
    let n = c.args.run.now.budget in
    let store = g.S.Store.stored c.args.store.now in
    let m = c.args.m.now in
    let known : judged_all store m.frame.slots.items c.args.operands.now ≡ ok (map value_of c.in_ok-values.values.items) = rw c.as_slice.ensures.value at c.in_ok-values.ensures in
    λ asked. subst (λ (o : Outcome Flow). Follows r asked n m o c.built_in_aside.new.m (g.S.Store.stored c.built_in_aside.new.store) c.built_in_aside.result)
    (ap (λ k. called_aside r asked n m store k (map value_of c.in_ok-values.values.items)) (sym c.in-BuiltIn.is)
    ∙ lift_ok store (judged_all store m.frame.slots.items c.args.operands.now) (called_aside r asked n m store c.args.callee) (map value_of c.in_ok-values.values.items) known)
    (rw c.as_slice-in-BuiltIn.ensures.value at (c.built_in_aside.ensures.gives r asked n))

pub returns : goal.returns
returns g c =
    let r = c.args.run.now.program.now in
    let n = c.args.run.now.budget in
    let store = g.S.Store.stored c.args.store.now in
    let m = c.args.m.now in
    let known : judged_all store m.frame.slots.items c.args.operands.now ≡ ok (map value_of c.in_ok-values.values.items) = rw c.as_slice.ensures.value at c.in_ok-values.ensures in
    record {
      gives = λ asked. subst (λ (o : Outcome Flow). Follows r asked n m o c.call_function.new.m store c.call_function.result)
          (callees.other_aside r asked n m store c.args.callee (map value_of c.in_ok-values.values.items) c.in_default.not-BuiltIn
          ∙ lift_ok store (judged_all store m.frame.slots.items c.args.operands.now) (called_aside r asked n m store c.args.callee) (map value_of c.in_ok-values.values.items) known)
          (c.call_function.ensures.gives asked store);
      state = c.call_function.ensures.state;
      falls = c.call_function.ensures.falls;
      low = callees.low_within c.call_function.result m c.call_function.new.m store c.call_function.ensures.within c.requires.low;
      within = omega (arith, c.call_function.ensures.within);
    }
