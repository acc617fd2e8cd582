use Rattle.std.proofs.Common.{◌≡◌, subst}
use Rattle.cg_cmachine_running.specs.Flat.{word_at}
use Rattle.cg_cmachine_running.specs.Machine.{Comes, block, framed, inner}
use Rattle.cg_cmachine_builtins.specs.Called.{state_of}
use Rattle.cg_cmachine_resolve.specs.Resolutions.{next}
use Rattle.cg_cmachine_def.specs.Outcomes.{Outcome, ok}
use Rattle.cg_cmachine_def.specs.Runs.{Flow, onward}
use Rattle.cg_cmachine_running.proofs.Steps.{tested_some}
use Rattle.cg_cmachine_running.proofs.statements.turn.Goals as goal

pub returns-clause-gives : goal.returns-clause-gives
returns-clause-gives g c =
    let store = g.S.Store.stored c.args.store.now in
    let m = c.args.m.now in
    let known : word_at store m.frame.slots.items c.args.operand.now ≡ ok c.in_ok-judge_word.field-0 = rw c.as_slice.ensures.value at c.in_ok-judge_word.ensures in
    λ r asked n. subst (λ (o : Outcome Flow). Comes r asked n m o c.descend.new.m store c.descend.result)
    (tested_some store (word_at store m.frame.slots.items c.args.operand.now) (onward (inner r asked n m store c.args.body) (block r asked n m.frame.at))
    (block r asked n (next m.frame.at) (framed r m.frame) (state_of store m.changes) m.left) c.in_ok-judge_word.field-0 known c.if-branch-eq0.false)
    (c.descend.ensures.gives r asked n store)
