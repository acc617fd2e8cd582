use Rattle.std.proofs.Common.{◌≡◌, arith, Err, subst, sym, ◌∙◌}
use Rattle.cg_eval_def.specs.Foreigns.{table_of}
use Rattle.cg_eval.specs.Answers.{Exact}
use Rattle.cg_value.specs.Values.{value_of}
use Rattle.cg_eval.proofs.Ends as steps
use Rattle.cg_eval.proofs.evaluator.call.Goals as goal

pub returns-in_err-focus : goal.returns-in_err-focus
returns-in_err-focus g c =
    let x = g.X.Extern.foreign c.args.externs.now in
    let table = table_of x c.args.checked.now in
    let halts = steps.halts_first table c.apply.new.m c.args.steps (value_of c.args.fun) (value_of c.args.arg) _ _ c.in_err-focus.field-0.0 c.new.ensures.items (c.in_err-focus.ensures.gives x) in
    let same : c.from_residual.result ≡ Err c.in_err-focus.field-0.0 = grind arith in
    subst (Exact table c.args.steps (value_of c.args.fun) (value_of c.args.arg)) (sym same) halts

pub returns-in_err-value : goal.returns-in_err-value
returns-in_err-value g c = grind (arith, steps.eval_spent, steps.bind_done)

pub overflow_sub-result : goal.overflow_sub-result
overflow_sub-result g c = grind (arith, steps.apply_left, steps.bind_done)

pub returns : goal.returns
returns g c = grind (arith, steps.eval_gives, steps.bind_done)

pub run-requires : goal.run-requires
run-requires g c = λ e.
    let x = g.X.Extern.foreign c.args.externs.now in
    let table = table_of x c.args.checked.now in
    c.requires (sym (steps.bind_done table _ _ _ c.new.ensures.items) ∙ sym (c.in_ok-focus.ensures.gives x) ∙ e)
