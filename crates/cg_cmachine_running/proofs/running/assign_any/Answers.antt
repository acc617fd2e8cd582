use Rattle.std.proofs.Common.{arith, subst}
use Rattle.cg_cmachine_def.specs.Outcomes.{Outcome}
use Rattle.cg_cmachine_def.specs.Runs.{Flow}
use Rattle.cg_cmachine_running.specs.Machine.{Follows}
use Rattle.cg_cmachine_running.proofs.Callees as callees
use Rattle.cg_cmachine_running.proofs.Forms as forms
use Rattle.cg_cmachine_running.proofs.running.assign_any.Goals as goal

pub returns-in-Call-clause-gives : goal.returns-in-Call-clause-gives
returns-in-Call-clause-gives g c = λ asked. rw c.in-Call.is (rw c.as_slice.ensures.value at (c.call_to.ensures.gives asked))

pub returns-in-New-clause-gives : goal.returns-in-New-clause-gives
returns-in-New-clause-gives g c = λ asked. rw c.in-New.is (c.new_to.ensures.gives c.args.run.now.program.now asked c.args.run.now.budget)

pub returns-in_default : goal.returns-in_default
returns-in_default g c =
    let r = c.args.run.now.program.now in
    let n = c.args.run.now.budget in
    let store = g.S.Store.stored c.args.store.now in
    let m = c.args.m.now in
    record {
      gives = λ asked. subst (λ (o : Outcome Flow). Follows r asked n m o c.assign.new.m (g.S.Store.stored c.assign.new.store) c.assign.result)
          (forms.assigns_plain r asked n m store c.args.place c.args.right.now c.in_default.not-Call c.in_default.not-New) (c.assign.ensures.gives r asked n);
      state = c.assign.ensures.state r;
      falls = c.assign.ensures.falls;
      low = callees.low_top c.assign.result m c.assign.new.m store (g.S.Store.stored c.assign.new.store) c.assign.ensures.within c.assign.ensures.top c.requires.low;
      within = omega (arith, c.assign.ensures.within);
    }
