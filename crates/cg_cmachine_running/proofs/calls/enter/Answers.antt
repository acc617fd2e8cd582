use Rattle.std.proofs.Common.{Global, Vec, rules, ◌≡◌, false, map, true}
use Rattle.std.proofs.lemmas.Result.{err_from_is_err_and}
use Rattle.cg_cmachine_builtins.specs.Called.{state_of}
use Rattle.cg_cmachine_values.specs.Values.{value_of}
use Rattle.cg_heap.specs.declared.cell.Scalar.{Scalar}
use Rattle.cg_cmachine_running.proofs.Entries as entries
use Rattle.cg_cmachine_running.proofs.calls.enter.Goals as goal

pub returns-then-not-head-clause-enters : goal.returns-then-not-head-clause-enters
returns-then-not-head-clause-enters c =
    let none : c.in-Some.head.has_body ≡ false = search rules in
    λ asked store d left. entries.entered_empty c.args.run.now.program.now asked c.args.run.now.budget c.args.function (map value_of c.args.values.now) (state_of store d) left
    c.in-Some.head.kind c.in-Some.head.params.now c.in-Some.head.slots c.in-Some.head.has_body c.in-Some.ensures.head none

pub returns-in_err-slots-clause-enters : goal.returns-in_err-slots-clause-enters
returns-in_err-slots-clause-enters c =
    let p = err_from_is_err_and c.from_residual.result c.from_residual.ensures.1 in
    let some : c.in-Some.head.has_body ≡ true = search rules in
    λ asked store d left. rw (p.1, p.2) (entries.enters_refused c.args.run.now.program.now asked c.args.run.now.budget (λ (slots : Vec Scalar Global). slots.items) c.args.function c.args.values.now store d left
    c.in-Some.head.kind c.in-Some.head.params.now c.in-Some.head.slots c.in-Some.head.has_body c.in_err-slots.field-0.0 c.in-Some.ensures.head some c.in_err-slots.ensures)

pub returns-clause-enters : goal.returns-clause-enters
returns-clause-enters c =
    let some : c.in-Some.head.has_body ≡ true = search rules in
    λ asked store d left. entries.enters_begun c.args.run.now.program.now asked c.args.run.now.budget c.args.function c.args.values.now c.in_ok-slots.slots.items store d left
    c.in-Some.head.kind c.in-Some.head.params.now c.in-Some.head.slots c.in-Some.head.has_body c.begin.result c.in-Some.ensures.head c.in-Some.ensures.first some c.in_ok-slots.ensures
    c.begin.ensures.place c.begin.ensures.kind c.begin.ensures.slots c.begin.ensures.wanting
