use Rattle.std.proofs.Common.{arith}
use Rattle.cg_core.specs.declared.derivation.Deriv.{the_lemmas}
use Rattle.cg_check_uses.proofs.PartSteps.{with_one_more}
use Rattle.cg_check_uses.proofs.derivs.push.Goals as goal

pub returns : goal.returns
returns c =
    let more = with_one_more c.args.tree c.push.new.self c.args.last c.in_ok-push.ensures.ok in
    grind (arith, the_lemmas, more)
