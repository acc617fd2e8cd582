use Rattle.std.proofs.Common.{Err, map, subst, sym}
use Rattle.cg_cread.specs.Answers.{Answers}
use Rattle.cg_cread.specs.declared.fault.CFault.TheVariants as reading
use Rattle.cg_heaptext_contents.specs.Placings.{pair_of}
use Rattle.cg_driver_text.specs.Filled.{filled, no_cells}
use Rattle.cg_driver_text.proofs.Runs.{said_of_text}
use Rattle.cg_driver_text.proofs.text.text_run.Goals as goal

pub returns-in-Ok : goal.returns-in-Ok
returns-in-Ok c =
    said_of_text c.args.bytes.now c.args.function.now c.args.start.arg (filled (map pair_of c.args.start.cells) no_cells) c.args.budget c.in-Ok.program c.in-Ok.ensures c.program_run.result c.program_run.ensures

pub returns-in-Err-Text : goal.returns-in-Err-Text
returns-in-Err-Text c = subst (λ p. Answers c.args.bytes.now (Err (reading.Text p))) (sym c.in-Err-Text.place-is) (rw c.in-Err-Text.field-0-is at c.in-Err-Text.ensures)
