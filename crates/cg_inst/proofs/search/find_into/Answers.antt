use Rattle.std.proofs.Common.{◌≡◌, ◌∙◌, Err, ap, arith, map, sym, subst}
use Rattle.cg_core.specs.Kernels.{function_of, kernel_of}
use Rattle.cg_inst.specs.Founds.{Finds}
use Rattle.cg_inst.specs.Judged.{core_in, functions_in}
use Rattle.cg_inst.specs.Lists.{front_from}
use Rattle.cg_inst.proofs.SearchSteps.{after_none, finds_err, next_is}
use Rattle.cg_inst.proofs.search.find_into.Goals as goal

pub returns-in_err-enter_front : goal.returns-in_err-enter_front
returns-in_err-enter_front c =
    let functions = functions_in c.args.checked.now in let cores = core_in c.args.checked.now in
    let front = ap (λ fs. front_from 0 (map function_of fs)) c.as_slice.ensures ∙ ap (λ k. front_from 0 (kernel_of k)) c.kernel.ensures ∙ sym (after_none functions cores) in
    let same : c.from_residual.result ≡ Err c.in_err-enter_front.field-0.0 = grind arith in
    subst (Finds functions cores c.enter_front.new.self) (sym same) (finds_err functions cores c.enter_front.new.self 0 _ c.in_err-enter_front.field-0.0 front c.in_err-enter_front.ensures)

pub loop-at-init : goal.loop-at-init
loop-at-init c =
    c.in_ok-enter_front.ensures ∙ ap (λ fs. front_from 0 (map function_of fs)) c.as_slice.ensures ∙ ap (λ k. front_from 0 (kernel_of k)) c.kernel.ensures
    ∙ sym (after_none (functions_in c.args.checked.now) (core_in c.args.checked.now))

pub returns-in_err-go_through_entry : goal.returns-in_err-go_through_entry
returns-in_err-go_through_entry c =
    let functions = functions_in c.args.checked.now in let cores = core_in c.args.checked.now in
    let same : c.from_residual-in_err-go_through_entry.result ≡ Err c.in_err-go_through_entry.field-0.0 = grind arith in
    subst (Finds functions cores c.go_through_entry.new.self) (sym same)
    (finds_err functions cores c.go_through_entry.new.self _ _ c.in_err-go_through_entry.field-0.0 (next_is functions cores c.loop-at.found c.loop-at.at c.loop-at.invariant) c.in_err-go_through_entry.ensures)

pub loop-at-preserved : goal.loop-at-preserved
loop-at-preserved c = c.in_ok-go_through_entry.ensures ∙ next_is (functions_in c.args.checked.now) (core_in c.args.checked.now) c.loop-at.found c.loop-at.at c.loop-at.invariant
