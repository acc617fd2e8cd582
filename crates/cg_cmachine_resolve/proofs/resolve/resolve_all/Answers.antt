use Rattle.std.proofs.Common.{subst, take_all, ◌∙◌, ap}
use Rattle.std.specs.List.{AllZip}
use Rattle.cg_cmachine_resolve.specs.Resolutions.{IsCode}
use Rattle.cg_cmachine_resolve.proofs.Positions.{codes_turn}
use Rattle.cg_cmachine_resolve.proofs.resolve.resolve_all.Goals as goal

pub loop-function-preserved : goal.loop-function-preserved
loop-function-preserved c =
    codes_turn c.args.named.now c.as_slice-functions.result.now c.loop-function.function-index c.function-item.result c.loop-function.codes.items c.push_code.new.codes.items c.loop-function-test.true c.function-item.is
    c.loop-function.invariant c.in_ok-push_code.ensures

pub returns : goal.returns
returns c =
    subst (λ fs. AllZip (IsCode c.args.named.now) fs c.loop-function.codes.items)
    (take_all c.loop-function.function-index c.as_slice-functions.result.now c.loop-function-test.false ∙ c.as_slice-functions.ensures ∙ ap (λ p. p.funs) c.program-program.ensures) c.loop-function.invariant
