use Rattle.std.proofs.Common.{arith, refl}
use Rattle.cg_base.specs.declared.ty.Ty.{the_lemmas}
use Rattle.cg_lower.proofs.CollectSteps.{grown_as, grown_both}
use Rattle.cg_lower.proofs.gather.Collected.add_ends.Goals as goal

pub returns-in_ok-add_type-in-Arrow-2 : goal.returns-in_ok-add_type-in-Arrow-2
returns-in_ok-add_type-in-Arrow-2 c =
    let both = grown_both _ _ _ _ _ _ _ _ _ _ _ _ c.in_ok-add_type-in-Arrow.ensures c.in_ok-add_type-in-Arrow-2.ensures in
    grown_as _ _ _ _ _ _ _ _ _ _ (grind (arith, the_lemmas, c.in-Arrow.is, c.deref.ensures, c.deref-in-Arrow.ensures)) refl refl both

pub returns-in_ok-add_type-in_default-2 : goal.returns-in_ok-add_type-in_default-2
returns-in_ok-add_type-in_default-2 c =
    let both = grown_both _ _ _ _ _ _ _ _ _ _ _ _ c.in_ok-add_type-in_default.ensures c.in_ok-add_type-in_default-2.ensures in
    grown_as _ _ _ _ _ _ _ _ _ _ (grind (arith, the_lemmas, c.in_default.not-Arrow)) refl refl both
