use Rattle.cg_base.specs.Types.{type_of}
use Rattle.cg_driver_steps.specs.declared.status.Status.TheVariants.{HeapRefused}
use Rattle.cg_driver.specs.Judged.{RefusesBytes}
use Rattle.cg_driver_lines.specs.Lines.{heap_line}
use Rattle.cg_driver.proofs.Saying.{heap_fault_refused, line_says, start_here}
use Rattle.cg_driver.proofs.run.start_of.Goals as goal

pub returns-in-Ok : goal.returns-in-Ok
returns-in-Ok c = start_here c.args.bytes.now (type_of c.args.ty.now) c.in-Ok.start c.if-bytes-gt-HEAP_LIMIT.false c.requires.small c.in-Ok.ensures

pub returns-in_ok-heap_refused-in-Err : goal.returns-in_ok-heap_refused-in-Err
returns-in_ok-heap_refused-in-Err c =
    line_says (RefusesBytes c.args.heap.now c.args.bytes.now (type_of c.args.ty.now)) HeapRefused (heap_line c.args.heap.now c.in-Err.fault) c.in_ok-heap_refused-in-Err.field-0
    c.in_ok-heap_refused-in-Err.ensures.0
    (heap_fault_refused c.args.heap.now c.args.bytes.now (type_of c.args.ty.now) c.if-bytes-gt-HEAP_LIMIT.false c.in-Err.fault c.in-Err.ensures c.in_ok-heap_refused-in-Err.ensures.1)
