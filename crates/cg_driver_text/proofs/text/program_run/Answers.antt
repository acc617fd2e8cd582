use Rattle.std.proofs.Common.{◌≡◌, map, subst, sym}
use Rattle.cg_cmachine_def.specs.Outcomes.{stuck}
use Rattle.cg_cmachine_def.specs.Runs.{crun}
use Rattle.cg_heap.specs.Stored.{Stored}
use Rattle.cg_ctree.specs.Trees.{program_of}
use Rattle.cg_flat.specs.Flat.{stored_of}
use Rattle.cg_heaptext_contents.specs.Placings.{pair_of}
use Rattle.cg_driver_text.specs.Filled.{filled, no_cells, unlinked}
use Rattle.cg_driver_text.proofs.Begun.{filled_top}
use Rattle.cg_driver_text.proofs.Runs.{ends_from, short_from, stuck_from}
use Rattle.cg_driver_text.proofs.text.program_run.Goals as goal

pub run_c-requires-clause-low : goal.run_c-requires-clause-low
run_c-requires-clause-low c = filled_top (map pair_of c.args.start.cells) _ c.in-Ok.ensures.ok c.requires.placeable.most

pub returns-in-Ok-run_c : goal.returns-in-Ok-run_c
returns-in-Ok-run_c c =
    ends_from (unlinked (program_of c.args.program.now)) c.args.function.now c.args.start.arg (map pair_of c.args.start.cells) c.args.budget _ (stored_of c.run_c.new.store) c.in-Ok.ensures.ok
    c.in-Ok-run_c.ran c.in-Ok-run_c.ensures

pub returns-in-Err-Stuck : goal.returns-in-Err-Stuck
returns-in-Err-Stuck c =
    let linked = unlinked (program_of c.args.program.now) in
    subst (λ why. (z : Stored) × (crun linked c.args.budget c.args.function.now c.args.start.arg (filled (map pair_of c.args.start.cells) no_cells) ≡ stuck why z)) (sym c.in-Err-Stuck.why-is)
    (stuck_from linked c.args.function.now c.args.start.arg (map pair_of c.args.start.cells) c.args.budget _ _ c.in-Ok.ensures.ok c.in-Err-Stuck.why (rw c.in-Err-Stuck.field-0-is at c.in-Err-Stuck.ensures))

pub returns-in-Err-Budget : goal.returns-in-Err-Budget
returns-in-Err-Budget c =
    short_from (unlinked (program_of c.args.program.now)) c.args.function.now c.args.start.arg (map pair_of c.args.start.cells) c.args.budget _ _ c.in-Ok.ensures.ok (rw c.in-Err-Budget.field-0-is at c.in-Err-Budget.ensures)
