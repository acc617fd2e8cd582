use Rattle.std.proofs.Common.{false, refl}
use Rattle.cg_heap.specs.declared.cell.Cell.TheVariants.{Slots}
use Rattle.cg_heaptext_contents.proofs.ContentSteps.{loose}
use Rattle.cg_heaptext_contents.proofs.content.loose.Goals as goal

pub returns : goal.returns
returns c = λ cell stands a t n.
    loose c.args.cell.now c.in_ok-loose.loose (record { cell = Slots c.in_ok-loose.loose.slots; over = c.in_ok-loose.loose.over; many = false }) refl refl refl c.in_ok-loose.ensures cell stands a t n
