use Rattle.cg_base.specs.Types.{type_of}
use Rattle.cg_value.specs.Values.{value_of}
use Rattle.cg_driver_laws.specs.Laws.{copies_in}
use Rattle.cg_driver_steps.specs.declared.status.Status.TheVariants.{Done}
use Rattle.cg_driver_steps.specs.Parts.{IsLine, Reports}
use Rattle.cg_driver.specs.Executed.{Executes, the_argument}
use Rattle.cg_driver.specs.Externs.{no_extern}
use Rattle.cg_driver.specs.Judged.{functions_in}
use Rattle.cg_driver_lines.specs.Lines.{report}
use Rattle.cg_driver.proofs.Executing.{said_of}
use Rattle.cg_driver.proofs.Placing.{stands_at}
use Rattle.cg_driver.proofs.Saying.{each}
use Rattle.cg_driver.proofs.execute.run_both.Goals as goal

pub machine-requires-clause-gives : goal.machine-requires-clause-gives
machine-requires-clause-gives c = let g = c.requires.gives in (g.0, g.1, value_of c.args.value.now, g.2, g.3, g.4, g.5)

pub returns : goal.returns
returns c argument v steps few ready gives =
    each (IsLine Done (report (type_of c.args.ty.now) (value_of c.args.value.now) (value_of c.in_ok-run.run'.value) c.args.cost c.in_ok-run.run'.steps c.in_ok-run.run'.made c.in_ok-run.run'.freed c.in_ok-run.run'.kept))
    (Reports (Executes no_extern (functions_in c.args.checked.now) (copies_in c.args.checked.now c.args.list.now) c.args.chosen.at (type_of c.args.ty.now) (the_argument c.args.start.cells c.args.start.arg v) steps))
    (λ p line. said_of no_extern c.args.checked.now c.args.list.now c.args.chosen.at c.args.chosen.place (type_of c.args.ty.now) (the_argument c.args.start.cells c.args.start.arg v) (value_of c.args.value.now) c.args.cost
    c.in_ok-run.run' c.requires.cores (stands_at c.args.checked.now c.args.list.now ready.can.listed c.args.chosen.at c.args.chosen.place ready.can.stands)
    (c.in_ok-run.ensures argument v (value_of c.args.value.now) steps few ready gives) p line steps gives)
    _ c.ran.ensures
