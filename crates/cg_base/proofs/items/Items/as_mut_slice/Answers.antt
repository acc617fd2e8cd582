use Rattle.std.proofs.Common.{refl, ap, ◌∙◌, ◌++◌, length, take, drop}
use Rattle.cg_base.specs.Lists.{refilled}
use Rattle.cg_base.proofs.items.Items.as_mut_slice.Goals as goal

pub returns : goal.returns
returns g c =
    let v = c.self.inside.items in (
      (refl, λ w. ap (λ n. take n (w ++ drop (length w) v.items)) v.ok.0 ∙ ap (λ l. refilled l w) c.self.view_is),
      record { writes_back = tt; value = c.as_mut_slice.ensures.value ∙ c.self.view_is },
    )
