use Rattle.std.proofs.Common.{◌∙◌, ap, subst, sym}
use Rattle.cg_cmachine_builtins.specs.Called.{state_of}
use Rattle.cg_cmachine_resolve.specs.Resolutions.{next}
use Rattle.cg_cmachine_def.specs.Outcomes.{Outcome}
use Rattle.cg_cmachine_def.specs.Runs.{Flow, onward}
use Rattle.cg_cmachine_values.specs.Values.{value_of}
use Rattle.cg_cmachine_running.specs.Machine.{Follows, block, framed, waits}
use Rattle.cg_cmachine_running.proofs.Landing as landing
use Rattle.cg_cmachine_running.proofs.running.land.Goals as goal

pub returns-in_default-clause-gives : goal.returns-in_default-clause-gives
returns-in_default-clause-gives g c =
    let r = c.args.run.now.program.now in
    let n = c.args.run.now.budget in
    let m = c.args.m.now in
    let s = state_of (g.S.Store.stored c.args.store.now) m.changes in
    λ asked w. sym (ap (λ (o : Outcome Flow). waits r asked n m.stack.items m.frame.at.function (onward o (block r asked n (next m.frame.at))))
    (landing.landed_end r asked n m (value_of c.args.value) s m.left c.in_default.ensures.line)
    ∙ ap (λ b. waits r asked n m.stack.items m.frame.at.function (b (framed r m.frame) s m.left)) (landing.block_past r asked n m.frame.at c.in_default.ensures.line))

pub returns-in-Assign-clause-gives : goal.returns-in-Assign-clause-gives
returns-in-Assign-clause-gives g c =
    let r = c.args.run.now.program.now in
    let n = c.args.run.now.budget in
    let m = c.args.m.now in
    let s = state_of (g.S.Store.stored c.args.store.now) m.changes in
    λ asked w. subst (λ (o : Outcome Flow). Follows r asked n m o c.put.new.m (g.S.Store.stored c.put.new.store) c.put.result)
    (sym (landing.landed_put r asked n m (value_of c.args.value) s m.left c.in-Some.line.now c.in-Assign.place c.in-Assign.field-1 c.in-Some.ensures.line c.requires.state.frame c.in-Assign.is w))
    (c.put.ensures.gives r asked n)

pub returns-in_default-action-clause-gives : goal.returns-in_default-action-clause-gives
returns-in_default-action-clause-gives g c =
    let r = c.args.run.now.program.now in
    let n = c.args.run.now.budget in
    let m = c.args.m.now in
    let s = state_of (g.S.Store.stored c.args.store.now) m.changes in
    λ asked w. sym (ap (λ (o : Outcome Flow). waits r asked n m.stack.items m.frame.at.function (onward o (block r asked n (next m.frame.at))))
    (landing.landed_past r asked n m (value_of c.args.value) s m.left c.in-Some.line.now c.in-Some.ensures.line c.in_default-action.not-Assign))
