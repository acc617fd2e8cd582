use Rattle.std.proofs.Common.{◌≡◌, arith, Err, subst, sym, ◌∙◌}
use Rattle.cg_eval_def.specs.Foreigns.{table_of}
use Rattle.cg_eval_machine.specs.Machine.{context_of, on, rest, said, Gave}
use Rattle.cg_value.specs.Values.{value_of}
use Rattle.cg_eval.proofs.Ends as steps
use Rattle.cg_eval.proofs.evaluator.run.Goals as goal

pub returns-in_err-focus-in-Want : goal.returns-in_err-focus-in-Want
returns-in_err-focus-in-Want g c = grind (arith, c.want.ensures.gives (table_of (g.X.Extern.foreign c.args.externs.now) c.args.checked.now))

pub returns-in-None : goal.returns-in-None
returns-in-None g c = grind (arith, steps.rest_done)

pub returns-in_err-focus-in-Some : goal.returns-in_err-focus-in-Some
returns-in_err-focus-in-Some g c =
    let x = g.X.Extern.foreign c.args.externs.now in
    let table = table_of x c.args.checked.now in
    let on_top = steps.on_top table c.pop.new.self.items c.loop-focus.m.frames.items c.in-Some.frame (context_of c.loop-focus.m) (value_of c.in-Have.value) c.loop-focus.m.left (grind arith) in
    let there : rest table c.loop-focus.m.frames.items (context_of c.loop-focus.m) (value_of c.in-Have.value) c.loop-focus.m.left ≡ said table c.args.start c.args.first = grind arith in
    let halts = steps.halts table c.resume.new.m (on table c.in-Some.frame (rest table c.pop.new.self.items) (context_of c.loop-focus.m) (value_of c.in-Have.value) c.loop-focus.m.left) (said table c.args.start c.args.first) c.in_err-focus-in-Some.field-0.0 (c.in_err-focus-in-Some.ensures.gives x) (on_top ∙ there) in
    let same : c.from_residual-in_err-focus-in-Some.result ≡ Err c.in_err-focus-in-Some.field-0.0 = grind arith in
    subst (Gave (said table c.args.start c.args.first)) (sym same) halts
