use Rattle.std.proofs.Common.{false, refl}
use Rattle.std.specs.Prelude.{None, map}
use Rattle.cg_base.specs.Types.{part_of, to_parts}
use Rattle.cg_heap.specs.declared.cell.Cell.TheVariants.{Slots}
use Rattle.cg_heaptext_contents.proofs.ContentSteps.{typed}
use Rattle.cg_heaptext_contents.proofs.content.typed.Goals as goal

pub returns : goal.returns
returns c = λ cell t stands a r.
    typed c.args.cell.now t (to_parts (map part_of c.args.parts.now)) c.in_ok-slots_at.field-0 (record { cell = Slots c.in_ok-slots_at.field-0; over = None; many = false }) refl refl c.in_ok-slots_at.ensures cell stands a r
