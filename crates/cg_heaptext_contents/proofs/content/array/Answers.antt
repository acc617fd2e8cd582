use Rattle.std.proofs.Common.{nat_lt, refl, ap}
use Rattle.cg_heap.specs.declared.cell.Cell.TheVariants.{Words}
use Rattle.cg_value.specs.Fits.{most_elements}
use Rattle.cg_heaptext_contents.proofs.ContentSteps.{array}
use Rattle.cg_heaptext_contents.proofs.content.array.Goals as goal

pub returns : goal.returns
returns c = λ cell t stands a.
    array c.args.cell.now c.in_ok-elements.elements (record { cell = Words c.in_ok-elements.elements.numbers; over = c.in_ok-elements.elements.over; many = nat_lt most_elements c.len.result }) refl refl (ap (nat_lt most_elements) c.len.ensures) c.in_ok-elements.ensures cell t stands a
