use Rattle.std.proofs.Common.{◌∙◌, sym}
use Rattle.std.proofs.lemmas.Slice.Eq.{slice_eq-Decides}
use Rattle.std.specs.Cmp.{booleans_Decides}
use Rattle.cg_cmachine_layout.proofs.circles.go_on.Goals as goal

pub returns-clause-stays : goal.returns-clause-stays
returns-clause-stays c =
    λ stays. sym c.as_slice-2.ensures.value ∙ (slice_eq-Decides booleans_Decides c.as_slice-2.result.now c.as_slice-3.result.now c.eq-stays.result c.eq-stays.ensures).0 stays ∙ c.as_slice-3.ensures.value
