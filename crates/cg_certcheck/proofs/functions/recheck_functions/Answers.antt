use Rattle.std.proofs.Common.{rules, ◌≡◌, ◌+◌, Err, map, drop, sym, ◌∙◌, ap, subst, arith}
use Rattle.cg_certcheck.proofs.BodySteps.{next_kept, stops}
use Rattle.cg_certcheck.specs.Bodies.{function_by, next_in}
use Rattle.cg_check_pieces.proofs.BodySteps.{behind}
use Rattle.cg_check_pieces.specs.Bodies.{as_lists, lists_of, one_more}
use Rattle.cg_certcheck_context.specs.View.{Agrees}
use Rattle.cg_core.specs.declared.kernel.KFun.{KFun}
use Rattle.cg_core.specs.Kernels.{function_of}
use Rattle.cg_certcheck_def.specs.Pass.{check_cert, check_functions}
use Rattle.cg_certcheck.proofs.functions.recheck_functions.Goals as goal

pub returns-in_err-judged : goal.returns-in_err-judged
returns-in_err-judged c =
    let fs = map function_of c.args.functions.now in
    let funs = c.as_slice-funs.result.now in
    let items = c.as_slice-fun-items.result.now in
    let e = c.in_err-judged.field-0.0 in
    let gives : c.from_residual.result ≡ Err e = search rules in
    let stop = stops fs items (next_in funs) lists_of e c.loop-fun.fun-index c.fun-item.result (lists_of c.loop-fun.kept) (drop c.loop-fun.at.index funs) c.loop-fun.at.next
    (omega arith) c.fun-item.is c.in_err-judged.ensures in
    let whole : check_functions fs (map function_of items) funs 1 ≡ check_cert fs c.args.cert.now =
    ap (λ l. check_functions fs (map function_of l) funs 1) c.as_slice-fun-items.ensures ∙ ap (λ l. check_functions fs fs l 1) c.as_slice-funs.ensures in
    subst (λ r. Agrees lists_of r (as_lists (check_cert fs c.args.cert.now))) (sym gives)
    (subst (λ o. Agrees lists_of (Err e) o) (sym c.loop-fun.invariant ∙ ap as_lists whole) stop)

pub loop-fun-preserved : goal.loop-fun-preserved
loop-fun-preserved c =
    let fs = map function_of c.args.functions.now in
    let funs = c.as_slice-funs.result.now in
    let items = c.as_slice-fun-items.result.now in
    let at = c.loop-fun.at in
    let s = next_in funs c.in_ok-judged.judged in
    let pushed : lists_of c.push.new.self ≡ one_more (lists_of c.loop-fun.kept) s.kept = search rules in
    c.loop-fun.invariant
    ∙ next_kept fs items c.loop-fun.fun-index c.fun-item.result (lists_of c.loop-fun.kept) (drop at.index funs) at.next s (omega arith)
    (ap (λ (f : KFun). function_by fs (function_of f) (drop at.index funs) at.next) (sym c.fun-item.is) ∙ c.in_ok-judged.ensures)
    ∙ ap (λ b. behind b (check_functions fs (map function_of (drop (c.loop-fun.fun-index + 1) items)) s.funs s.next)) (sym pushed)
