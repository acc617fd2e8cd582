use Rattle.std.proofs.Common.{◌++◌, map, ap, ◌∙◌}
use Rattle.cg_heaptext_def.specs.Reading.{scalars_all}
use Rattle.cg_heaptext_def.specs.Small.{capped}
use Rattle.cg_heaptext_def.specs.Trees.{values_in}
use Rattle.cg_heaptext_scalars.specs.Given.{pieces}
use Rattle.cg_heaptext_scalars.proofs.scalars.slots_at.Goals as goal

pub returns : goal.returns
returns c = λ p fs s.
    c.in_ok-add_fields.ensures fs (c.fields_of.ensures p fs s)
    ∙ ap (λ us. us ++ map capped (scalars_all (pieces c.as_slice.result.now) (values_in fs))) c.new-out.ensures
    ∙ ap (λ ps. map capped (scalars_all (pieces ps) (values_in fs))) c.as_slice.ensures
