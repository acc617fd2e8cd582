use Rattle.std.proofs.Common.{ap, refl, sym}
use Rattle.cg_lower.specs.Collected.{parts_of_arrows}
use Rattle.cg_lower.proofs.CollectSteps.{grown_as, grown_both, grown_empty}
use Rattle.cg_lower.proofs.gather.Collected.add_turns.Goals as goal

pub returns-in_ok-add_arrow-in-Some : goal.returns-in_ok-add_arrow-in-Some
returns-in_ok-add_arrow-in-Some c =
    let both = grown_both _ _ _ _ _ _ _ _ _ _ _ _ c.in_ok-add_ends-in-Some.ensures c.in_ok-add_arrow-in-Some.ensures in
    grown_as _ _ _ _ _ _ _ _ _ _ (ap parts_of_arrows (sym c.in-Some.ensures)) (sym c.in-Some.ensures) refl both

pub returns-in-None : goal.returns-in-None
returns-in-None c = grown_empty _ _ _ _ (ap parts_of_arrows c.in-None.ensures) c.in-None.ensures
