use Rattle.std.proofs.Common.{false, refl}
use Rattle.std.specs.Prelude.{None}
use Rattle.cg_heap.specs.declared.cell.Cell.TheVariants.{Answers}
use Rattle.cg_heaptext_contents.proofs.ContentSteps.{allocator}
use Rattle.cg_heaptext_contents.proofs.content.allocator.Goals as goal

pub returns : goal.returns
returns c = λ cell t stands a.
    allocator c.args.cell.now c.in_ok-answers.field-0 (record { cell = Answers c.in_ok-answers.field-0; over = None; many = false }) refl refl refl c.in_ok-answers.ensures cell t stands a
