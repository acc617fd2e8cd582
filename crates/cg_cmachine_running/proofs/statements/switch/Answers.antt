use Rattle.std.proofs.Common.{◌≡◌, ◌∙◌, Some, sym, ap, subst}
use Rattle.cg_cmachine_running.specs.Flat.{first_case, word_at}
use Rattle.cg_cmachine_running.specs.Machine.{Follows, inner_case}
use Rattle.cg_cmachine_def.specs.Outcomes.{Outcome, ok}
use Rattle.cg_cmachine_def.specs.Runs.{Flow}
use Rattle.cg_cmachine_running.proofs.Steps.{lift_ok}
use Rattle.cg_cmachine_running.proofs.statements.switch.Goals as goal

pub returns-in-Some-clause-gives : goal.returns-in-Some-clause-gives
returns-in-Some-clause-gives g c =
    let store = g.S.Store.stored c.args.store.now in
    let m = c.args.m.now in
    let known : word_at store m.frame.slots.items c.args.operand.now ≡ ok c.in_ok-number.number = rw c.as_slice.ensures.value at c.in_ok-number.ensures in
    let there : Some c.in-Some.block ≡ first_case c.in_ok-number.number c.args.cases.now = sym c.in-Some.is ∙ c.find_case.ensures in
    λ r asked n. subst (λ (o : Outcome Flow). Follows r asked n m o c.descend.new.m store c.descend.result)
    (ap (inner_case r asked n m store) there ∙ lift_ok store (word_at store m.frame.slots.items c.args.operand.now) (λ k. inner_case r asked n m store (first_case k c.args.cases.now)) c.in_ok-number.number known)
    (c.descend.ensures.gives r asked n store)
