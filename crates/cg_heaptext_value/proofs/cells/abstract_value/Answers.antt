use Rattle.std.proofs.Common.{◌≡◌, IfOk}
use Rattle.cg_heaptext_def.specs.HeapText.{cells_of}
use Rattle.cg_value.specs.Values.{value_of}
use Rattle.cg_heaptext_value.specs.Capped.{capped_value}
use Rattle.cg_heaptext_value.specs.Given.{abstract_in}
use Rattle.cg_heaptext_value.proofs.Digits.{by_address}
use Rattle.cg_heaptext_value.proofs.cells.abstract_value.Goals as goal

pub returns-in-Address : goal.returns-in-Address
returns-in-Address c = λ h a v s.
    by_address c.args.value.now v s c.in-Address.field-0 c.in-Address.address (c.in-Address.ensures v s) (λ w. IfOk c.value_by.result (λ x. value_of x ≡ capped_value (abstract_in (cells_of h) w))) (λ p d. c.value_by.ensures h a d)
