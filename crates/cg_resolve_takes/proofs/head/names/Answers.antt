use Rattle.std.proofs.Common.{◌||◌, ap, ◌∙◌}
use Rattle.std.specs.Str.{bytes_eq}
use Rattle.cg_resolve_declared.specs.Tables.{has}
use Rattle.cg_resolve_takes.proofs.FieldSteps.{set_turn}
use Rattle.cg_resolve_takes.proofs.head.names.Goals as goal

pub loop-part-preserved : goal.loop-part-preserved
loop-part-preserved c =
    set_turn c.as_slice-part-items.result.now c.loop-part.part-index c.part-item.result c.loop-part.names c.add.new.set c.loop-part-test.true c.part-item.is c.loop-part.invariant
    (λ other. c.in_ok-add.ensures.names other ∙ ap (λ n. bytes_eq n other || has c.loop-part.names other) c.bytes.ensures)
