use Rattle.std.proofs.Common.{◌≡◌, Err, map}
use Rattle.cg_driver_text.specs.declared.text.TextFault.TheVariants.{Budget, Stuck, Text}
use Rattle.cg_driver_text.specs.Texts.{TextRuns}
use Rattle.cg_base.specs.Types.{type_of}
use Rattle.cg_cmachine.specs.Answers.{EndsAs}
use Rattle.cg_cmachine_def.specs.Outcomes.{needs, stuck}
use Rattle.cg_cmachine_def.specs.Runs.{crun}
use Rattle.cg_flat.specs.Flat.{stored_of}
use Rattle.cg_heap.specs.Stored.{Stored}
use Rattle.cg_heaptext_contents.specs.Placings.{pair_of}
use Rattle.cg_driver_text.specs.Filled.{filled, no_cells, unlinked}
use Rattle.cg_driver.specs.Run.{budget}
use Rattle.cg_driver.proofs.Executing.{gives_so, not_short, not_stuck, of_spelled}
use Rattle.cg_driver.proofs.machine.run_on.Goals as goal

pub returns-in-Ok : goal.returns-in-Ok
returns-in-Ok c program value spelled g =
    let m = filled (map pair_of c.args.start.cells) no_cells in
    let r = c.in-Ok.ensures in
    gives_so (unlinked program) c.args.function.now c.args.start.arg m (type_of c.args.ty.now) c.args.cost (stored_of c.in-Ok.store) c.requires.plain c.in-Ok.ran
    (of_spelled c.args.bytes.now r.program program r.only spelled
    (λ l. EndsAs (crun l (budget c.args.cost) c.args.function.now c.args.start.arg m) (budget c.args.cost) (stored_of c.in-Ok.store) c.in-Ok.ran) r.runs)
    c.read_back.result c.read_back.ensures value g

pub unreachable-requires : goal.unreachable-requires
unreachable-requires c =
    let m = filled (map pair_of c.args.start.cells) no_cells in
    let r : TextRuns c.args.bytes.now c.args.function.now c.args.start.arg m (budget c.args.cost) (Err (Text c.in-Err-Text.field-0-0)) = rw c.in-Err-Text.field-0-is at c.in-Err-Text.ensures in
    r.4 c.requires.ends.0 c.requires.ends.2

pub unreachable-requires-in-Err-Stuck : goal.unreachable-requires-in-Err-Stuck
unreachable-requires-in-Err-Stuck c =
    let m = filled (map pair_of c.args.start.cells) no_cells in
    let ends = c.requires.ends in
    let r : TextRuns c.args.bytes.now c.args.function.now c.args.start.arg m (budget c.args.cost) (Err (Stuck c.in-Err-Stuck.field-0-0)) = rw c.in-Err-Stuck.field-0-is at c.in-Err-Stuck.ensures in
    not_stuck (unlinked ends.0) c.args.function.now c.args.start.arg m (type_of c.args.ty.now) c.args.cost c.in-Err-Stuck.field-0-0 (ends.1, ends.3)
    (of_spelled c.args.bytes.now r.program ends.0 r.only ends.2 (λ l. (after : Stored) × (crun l (budget c.args.cost) c.args.function.now c.args.start.arg m ≡ stuck c.in-Err-Stuck.field-0-0 after)) r.runs)

pub unreachable-requires-in-Err-Budget : goal.unreachable-requires-in-Err-Budget
unreachable-requires-in-Err-Budget c =
    let m = filled (map pair_of c.args.start.cells) no_cells in
    let ends = c.requires.ends in
    let r : TextRuns c.args.bytes.now c.args.function.now c.args.start.arg m (budget c.args.cost) (Err Budget) = rw c.in-Err-Budget.field-0-is at c.in-Err-Budget.ensures in
    not_short (unlinked ends.0) c.args.function.now c.args.start.arg m (type_of c.args.ty.now) c.args.cost (ends.1, ends.3)
    (of_spelled c.args.bytes.now r.program ends.0 r.only ends.2 (λ l. (after : Stored) × (crun l (budget c.args.cost) c.args.function.now c.args.start.arg m ≡ needs after)) r.runs)
