use Rattle.std.proofs.Common.{refl, arith}
use Rattle.std.proofs.lemmas.Option.{same_Some}
use Rattle.cg_driver.proofs.Wording.{or_memory, no_rise}
use Rattle.cg_driver.proofs.law.honest_cogent.Goals as goal

pub returns-clause-held : goal.returns-clause-held
returns-clause-held c none = same_Some _ _ (c.cogent.ensures.unwritten none).held

pub returns-clause-decides : goal.returns-clause-decides
returns-clause-decides c =
    or_memory _ _ (λ e. absurd (omega (arith, (c.cogent.ensures.read_fault e).2))) (λ e. no_rise _ _ (c.cogent.ensures.write_fault e)) (c.cogent.ensures.decides _ refl)
