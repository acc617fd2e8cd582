use Rattle.std.proofs.Common.{arith, refl}
use Rattle.cg_core.specs.declared.term.Form.{the_lemmas}
use Rattle.cg_lower.proofs.CollectSteps.{grown_as, grown_both}
use Rattle.cg_lower.proofs.gather.Collected.add_node.Goals as goal
use Rattle.cg_core.proofs.Operands.{core_is}

pub returns-in_ok-add_call-in-App : goal.returns-in_ok-add_call-in-App
returns-in_ok-add_call-in-App c =
    let both = grown_both _ _ _ _ _ _ _ _ _ _ _ _ c.in_ok-add_type.ensures c.in_ok-add_call-in-App.ensures in
    grown_as _ _ _ _ _ _ _ _ _ _ (grind (arith, core_is, the_lemmas)) (grind (arith, core_is, the_lemmas, c.in-App.is, c.deref.ensures)) refl both
