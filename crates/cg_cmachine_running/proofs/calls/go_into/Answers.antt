use Rattle.std.proofs.Common.{None, map, subst, sym}
use Rattle.std.proofs.lemmas.List.Elements.{All-push}
use Rattle.std.proofs.lemmas.Result.{err_from_is_err_and}
use Rattle.std.specs.FinMap as finite
use Rattle.std.specs.List.{All}
use Rattle.cg_cmachine_builtins.specs.Called.{state_of}
use Rattle.cg_cmachine_values.specs.Values.{value_of}
use Rattle.cg_cmachine_running.specs.declared.machine.Kont.TheVariants.{Return}
use Rattle.cg_cmachine_running.specs.Machine.{IsFrame, IsKont, entered}
use Rattle.cg_cmachine_running.proofs.Entries as entries
use Rattle.cg_cmachine_running.proofs.Steps as steps
use Rattle.cg_cmachine_running.proofs.calls.go_into.Goals as goal

pub returns-in_err-frame-clause-gives : goal.returns-in_err-frame-clause-gives
returns-in_err-frame-clause-gives c =
    let p = err_from_is_err_and c.from_residual.result c.from_residual.ensures.1 in
    let r = c.args.run.now.program.now in
    let n = c.args.run.now.budget in
    λ asked store. rw (p.1, p.2) (steps.went_fails r asked n _ _ _ c.args.m.now store c.in_err-frame.field-0.0
    (steps.fails_onward _ _ store c.in_err-frame.field-0.0 (steps.fails_bind _ _ store c.in_err-frame.field-0.0
    (entries.fails_enters r asked n _ store c.args.m.now.changes c.args.m.now.left c.in_err-frame.field-0.0 (c.in_err-frame.ensures.enters asked store c.args.m.now.changes c.args.m.now.left)))))

pub returns-clause-gives : goal.returns-clause-gives
returns-clause-gives c =
    let r = c.args.run.now.program.now in
    let n = c.args.run.now.budget in
    let m = c.args.m.now in
    λ asked store. entries.into_goes r asked n m.stack.items c.push.new.self.items c.replace-caller.result m.frame c.in_ok-frame.frame c.replace-caller.new.dest (state_of store m.changes) m.left
    (entered r asked n c.args.function (map value_of c.args.values.now) (state_of store m.changes) m.left)
    c.in_ok-push.ensures.items c.replace-caller.ensures.value c.replace-caller.ensures.after (c.in_ok-frame.ensures.enters asked store m.changes m.left).0

pub returns-clause-state : goal.returns-clause-state
returns-clause-state c =
    let r = c.args.run.now.program.now in
    let frame = (c.in_ok-frame.ensures.enters (λ name us m. None) (record { cells = finite.empty; top = 0 }) c.args.m.now.changes c.args.m.now.left).1 in
    λ h. (
      record {
        frame = subst (IsFrame r) (sym c.replace-caller.ensures.after) frame;
        stack = subst (All (IsKont r)) (sym c.in_ok-push.ensures.items) (All-push (IsKont r) c.args.m.now.stack.items (Return c.replace-caller.result) h.stack (subst (IsFrame r) (sym c.replace-caller.ensures.value) h.frame));
      },
      tt,
    )
