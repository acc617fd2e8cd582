use Rattle.std.proofs.Common.{◌≡◌, subst}
use Rattle.cg_cmachine_running.specs.Flat.{word_at}
use Rattle.cg_cmachine_running.specs.Machine.{Follows, inner}
use Rattle.cg_cmachine_def.specs.Outcomes.{Outcome, ok}
use Rattle.cg_cmachine_def.specs.Runs.{Flow}
use Rattle.cg_cmachine_running.proofs.Steps.{tested_none, tested_some}
use Rattle.cg_cmachine_running.proofs.statements.branch.Goals as goal

pub returns-then-branch-eq0-clause-gives : goal.returns-then-branch-eq0-clause-gives
returns-then-branch-eq0-clause-gives g c =
    let store = g.S.Store.stored c.args.store.now in
    let m = c.args.m.now in
    let known : word_at store m.frame.slots.items c.args.operand.now ≡ ok c.in_ok-judge_word.field-0 = rw c.as_slice.ensures.value at c.in_ok-judge_word.ensures in
    λ r asked n. subst (λ (o : Outcome Flow). Follows r asked n m o c.descend.new.m store c.descend.result)
    (tested_none store (word_at store m.frame.slots.items c.args.operand.now) (inner r asked n m store c.args.yes) (inner r asked n m store c.args.no) c.in_ok-judge_word.field-0 known c.if-branch-eq0.true)
    (c.descend.ensures.gives r asked n store)

pub returns-else-branch-eq0-clause-gives : goal.returns-else-branch-eq0-clause-gives
returns-else-branch-eq0-clause-gives g c =
    let store = g.S.Store.stored c.args.store.now in
    let m = c.args.m.now in
    let known : word_at store m.frame.slots.items c.args.operand.now ≡ ok c.in_ok-judge_word.field-0 = rw c.as_slice.ensures.value at c.in_ok-judge_word.ensures in
    λ r asked n. subst (λ (o : Outcome Flow). Follows r asked n m o c.descend-else-branch-eq0.new.m store c.descend-else-branch-eq0.result)
    (tested_some store (word_at store m.frame.slots.items c.args.operand.now) (inner r asked n m store c.args.yes) (inner r asked n m store c.args.no) c.in_ok-judge_word.field-0 known c.if-branch-eq0.false)
    (c.descend-else-branch-eq0.ensures.gives r asked n store)
