use Rattle.cg_driver_steps.specs.declared.status.Status.TheVariants.{Refused}
use Rattle.cg_driver.specs.Judged.{RefusesEntry}
use Rattle.cg_driver_lines.specs.Lines.{no_entry_line}
use Rattle.cg_driver.proofs.Saying.{absent_refused, entry_found, entry_told, line_says}
use Rattle.cg_driver.proofs.entry.entry_of.Goals as goal

pub returns-in_ok-no_entry-in-None : goal.returns-in_ok-no_entry-in-None
returns-in_ok-no_entry-in-None c =
    line_says (RefusesEntry _ _ _) Refused (no_entry_line c.args.file.now) c.in_ok-no_entry-in-None.field-0 c.in_ok-no_entry-in-None.ensures
    (absent_refused c.args.file.now c.args.entry.now _ (entry_found c.args.entry.now c.args.checked.now _ _ _ c.kernel.ensures c.as_slice.ensures c.in-None.ensures))

pub returns-in-Some : goal.returns-in-Some
returns-in-Some c =
    entry_told c.args.file.now c.args.entry.now _ _ (entry_found c.args.entry.now c.args.checked.now _ _ _ c.kernel.ensures c.as_slice.ensures c.in-Some.ensures) _ c.allowed.ensures
