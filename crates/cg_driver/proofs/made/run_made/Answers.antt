use Rattle.std.proofs.Common.{sym, ◌∙◌}
use Rattle.cg_driver_words.specs.Words.{default_steps}
use Rattle.cg_driver.specs.Commands.{made_name}
use Rattle.cg_driver.specs.Externs.{no_extern}
use Rattle.cg_driver.proofs.Building.{built_said}
use Rattle.cg_driver.proofs.Making.{made_told}
use Rattle.cg_driver.proofs.made.run_made.Goals as goal

pub returns : goal.returns
returns c found is kept at heap =
    made_told no_extern default_steps made_name found c.in_ok-line.line.text.items
    (built_said c.args.checked.now c.args.list.now c.args.written.now found c.requires.ready is kept c.kernel.result.now c.as_slice-functions.result.now c.kernel.ensures c.as_slice-functions.ensures c.in_ok-line.line.text.items c.in_ok-line.ensures.1)
    c.in_ok-report.report (c.in_ok-report.ensures found kept at (heap ∙ sym c.heap_text.ensures)) c.joined.result c.joined.ensures
