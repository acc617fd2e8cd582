use Rattle.std.proofs.Common.{[], ◌≡◌, ◌∙◌, ap, arith, rules, sym}
use Rattle.std.proofs.lemmas.Result.{err_from_is_err_and}
use Rattle.cg_cmachine_builtins.specs.Called.{state_of}
use Rattle.cg_cmachine_def.specs.Operands.{scalars_of}
use Rattle.cg_cmachine_def.specs.Outcomes.{Outcome, done}
use Rattle.cg_cmachine_def.specs.Runs.{Flow, back}
use Rattle.cg_cmachine_values.specs.Values.{value_of}
use Rattle.cg_cmachine_running.specs.declared.machine.Next.TheVariants.{Goes}
use Rattle.cg_cmachine_running.specs.Machine.{on_kont, said, waits}
use Rattle.cg_cmachine_running.proofs.Forms as forms
use Rattle.cg_cmachine_running.proofs.Steps as steps
use Rattle.cg_cmachine.proofs.going.go_on.Goals as goal

pub returns-in_err-next-in-Goes-clause-ends : goal.returns-in_err-next-in-Goes-clause-ends
returns-in_err-next-in-Goes-clause-ends g c =
    let r = c.args.run.now.program.now in
    let n = c.args.run.now.budget in
    let asked = (g.X.ExternHeap.on_heaps c.args.table.now).asked in
    let store = g.S.Store.stored c.loop-next.store in
    let m = c.loop-next.m in
    let p = err_from_is_err_and c.from_residual.result c.from_residual.ensures.1 in
    rw (p.1, p.2) (forms.ends_went r asked n value_of _ (said r asked n m store Goes) c.step.new.m (g.S.Store.stored c.step.new.store) m.changes m.left c.in_err-next-in-Goes.field-0.0
    (ap (said r asked n m store) (sym c.in-Goes.is) ∙ c.loop-next.invariant.same) (c.in_err-next-in-Goes.ensures.gives asked))

pub returns-in-None-clause-ends : goal.returns-in-None-clause-ends
returns-in-None-clause-ends g c =
    let r = c.args.run.now.program.now in
    let n = c.args.run.now.budget in
    let asked = (g.X.ExternHeap.on_heaps c.args.table.now).asked in
    let store = g.S.Store.stored c.loop-next.store in
    let m = c.loop-next.m in
    let none : m.stack.items ≡ [] = search rules in
    sym (ap (said r asked n m store) (sym c.in-Back.is) ∙ c.loop-next.invariant.same)
    ∙ steps.waits_none r asked n m.stack.items m.frame.at.function (done (back (scalars_of (value_of c.in-Back.value))) (state_of store m.changes) m.left) none

pub returns-in_err-next-in-Some-clause-ends : goal.returns-in_err-next-in-Some-clause-ends
returns-in_err-next-in-Some-clause-ends g c =
    let r = c.args.run.now.program.now in
    let n = c.args.run.now.budget in
    let asked = (g.X.ExternHeap.on_heaps c.args.table.now).asked in
    let store = g.S.Store.stored c.loop-next.store in
    let m = c.loop-next.m in
    let o : Outcome Flow = done (back (scalars_of (value_of c.in-Back.value))) (state_of store m.changes) m.left in
    let popped : on_kont r asked n c.in-Some.kont (waits r asked n c.pop.new.self.items) m.frame.at.function o ≡ said r asked n c.args.m.now (g.S.Store.stored c.args.store.now) Goes =
    forms.waits_pop r asked n c.pop.new.self.items m.stack.items c.in-Some.kont m.frame.at.function o c.in-Some.ensures.items
    ∙ ap (said r asked n m store) (sym c.in-Back.is) ∙ c.loop-next.invariant.same in
    let p = err_from_is_err_and c.from_residual-in_err-next-in-Some.result c.from_residual-in_err-next-in-Some.ensures.1 in
    rw (p.1, p.2) (forms.ends_went r asked n value_of _ _ c.back.new.m (g.S.Store.stored c.back.new.store) m.changes m.left c.in_err-next-in-Some.field-0.0 popped (c.in_err-next-in-Some.ensures.gives asked))

pub loop-next-preserved : goal.loop-next-preserved
loop-next-preserved g c =
    let r = c.args.run.now.program.now in
    let n = c.args.run.now.budget in
    let asked = (g.X.ExternHeap.on_heaps c.args.table.now).asked in
    let store = g.S.Store.stored c.loop-next.store in
    let m = c.loop-next.m in
    let o : Outcome Flow = done (back (scalars_of (value_of c.in-Back.value))) (state_of store m.changes) m.left in
    let popped : on_kont r asked n c.in-Some.kont (waits r asked n c.pop.new.self.items) m.frame.at.function o ≡ said r asked n c.args.m.now (g.S.Store.stored c.args.store.now) Goes =
    forms.waits_pop r asked n c.pop.new.self.items m.stack.items c.in-Some.kont m.frame.at.function o c.in-Some.ensures.items
    ∙ ap (said r asked n m store) (sym c.in-Back.is) ∙ c.loop-next.invariant.same in
    let within = c.back.ensures.within in
    let before = c.loop-next.invariant.within in
    record {
      same = c.in_ok-next-in-Some.ensures.gives asked ∙ popped;
      state = c.in_ok-next-in-Some.ensures.state.0;
      next = c.in_ok-next-in-Some.ensures.state.1;
      low = c.in_ok-next-in-Some.ensures.low;
      within = omega (arith, within, before);
    }
