use Rattle.std.proofs.Common.{◌≡◌, ◌∙◌, ◌-◌, ap, arith, subst, suc}
use Rattle.cg_cmachine_builtins.specs.Called.{state_of}
use Rattle.cg_cmachine_def.specs.Outcomes.{Outcome}
use Rattle.cg_cmachine_def.specs.Runs.{Flow}
use Rattle.cg_heap.specs.declared.cell.Scalar.{Scalar}
use Rattle.std.specs.Prelude.{List}
use Rattle.cg_cmachine_running.specs.Machine.{Went, block, framed, waits}
use Rattle.cg_cmachine_running.proofs.Forms as forms
use Rattle.cg_cmachine_running.proofs.Stands as stands
use Rattle.cg_cmachine_running.proofs.running.step.Goals as goal

pub returns-then-m-eq0-clause-gives : goal.returns-then-m-eq0-clause-gives
returns-then-m-eq0-clause-gives g c =
    let r = c.args.run.now.program.now in
    let m = c.args.m.now in
    λ asked. forms.first_needs r asked c.args.run.now.budget m.stack.items m.frame.at (framed r m.frame) (state_of (g.S.Store.stored c.args.store.now) m.changes) m.left
    c.in-Some.line.now c.in-Some.ensures.line c.if-m-eq0.true

pub begin-requires-clause-within : goal.begin-requires-clause-within
begin-requires-clause-within g c = stands.stands_within c.args.run.now.program.now c.args.m.now c.in-Some.line.now c.in-Some.ensures.line c.requires.state.frame

pub returns-in-None-clause-gives : goal.returns-in-None-clause-gives
returns-in-None-clause-gives g c =
    let r = c.args.run.now.program.now in
    let n = c.args.run.now.budget in
    let m = c.args.m.now in
    let store = g.S.Store.stored c.args.store.now in
    λ asked. subst (λ (o : Outcome (List Scalar)). Went r asked n o c.end.new.m store c.end.result)
    (forms.first_none r asked n m.stack.items m.frame.at (framed r m.frame) (state_of store m.changes) m.left c.in-None.ensures.line) (c.end.ensures.gives r asked n store)

pub returns-in-None-clause-low : goal.returns-in-None-clause-low
returns-in-None-clause-low g c = c.end.ensures.low (g.S.Store.stored c.args.store.now) c.requires.low

pub returns-else-m-eq0-clause-gives : goal.returns-else-m-eq0-clause-gives
returns-else-m-eq0-clause-gives g c =
    let r = c.args.run.now.program.now in
    let n = c.args.run.now.budget in
    let m = c.args.m.now in
    let store = g.S.Store.stored c.args.store.now in
    let counted : suc (m.left - 1) ≡ m.left = omega (arith, c.if-m-eq0.false) in
    λ asked. subst (λ (o : Outcome Flow). Went r asked n (waits r asked n m.stack.items m.frame.at.function o) c.begin.new.m (g.S.Store.stored c.begin.new.store) c.begin.result)
    (stands.stands_acts r asked n (record { frame = m.frame; stack = m.stack; left = m.left - 1; changes = m.changes }) store c.in-Some.line.now c.in-Some.ensures.line c.requires.state.frame
    (omega (arith, c.if-m-eq0.false, c.requires.small)) ∙ ap (block r asked n m.frame.at (framed r m.frame) (state_of store m.changes)) counted)
    (c.begin.ensures.gives asked)

pub returns-else-m-eq0-clause-within : goal.returns-else-m-eq0-clause-within
returns-else-m-eq0-clause-within g c = omega (arith, c.begin.ensures.within)
