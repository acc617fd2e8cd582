use Rattle.std.proofs.Common.{subst}
use Rattle.cg_cmachine_builtins.specs.Called.{state_of}
use Rattle.cg_cmachine_def.specs.Outcomes.{Outcome}
use Rattle.cg_cmachine_values.specs.Values.{value_of}
use Rattle.cg_heap.specs.declared.cell.Scalar.{Scalar}
use Rattle.std.specs.Prelude.{List}
use Rattle.cg_cmachine_running.specs.Machine.{Went, waits}
use Rattle.cg_cmachine_running.proofs.Entries.{value_whole}
use Rattle.cg_cmachine_running.proofs.Forms as forms
use Rattle.cg_cmachine_running.proofs.running.back.Goals as goal

pub returns-in-Return-clause-gives : goal.returns-in-Return-clause-gives
returns-in-Return-clause-gives g c =
    let r = c.args.run.now.program.now in
    let n = c.args.run.now.budget in
    let m = c.args.m.now in
    let s = state_of (g.S.Store.stored c.args.store.now) m.changes in
    λ asked. rw c.in-Return.is (subst (λ (o : Outcome (List Scalar)). Went r asked n o c.land.new.m (g.S.Store.stored c.land.new.store) c.land.result)
    (forms.back_return r asked n (waits r asked n m.stack.items) c.in-Return.frame m.frame.at.function (value_of c.args.value) s m.left c.requires.typed)
    (c.land.ensures.gives asked (value_whole c.args.value)))
