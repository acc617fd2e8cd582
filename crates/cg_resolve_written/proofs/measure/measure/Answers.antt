use Rattle.std.proofs.Common.{ap, arith}
use Rattle.cg_surface.specs.Programs.{entry_of}
use Rattle.cg_surface.specs.declared.program.Item.{Item}
use Rattle.cg_resolve_expand.specs.Known.{known_of}
use Rattle.cg_resolve_written.specs.Measures.{greatest_entry}
use Rattle.cg_resolve_written.proofs.MeasureSteps.{entry_at}
use Rattle.cg_resolve_written.proofs.measure.measure.Goals as goal

pub loop-item-preserved : goal.loop-item-preserved
loop-item-preserved c =
    omega (
      arith,
      (entry_at (known_of c.args.synonyms.now) c.args.items.now c.loop-item.item-index c.item-item.result c.loop-item-test.true).1,
      c.in_ok-measure_item.ensures.ok,
      ap (λ (x : Item). greatest_entry (known_of c.args.synonyms.now) (entry_of x)) c.item-item.is,
    )
