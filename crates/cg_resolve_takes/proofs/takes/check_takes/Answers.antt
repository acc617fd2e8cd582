use Rattle.std.proofs.Common.{ap, sym, rules, ◌∙◌}
use Rattle.std.proofs.lemmas.List.Folds.{flat_map-map}
use Rattle.std.specs.List.{flat_map}
use Rattle.cg_resolve_declared.specs.Declarations.{entries_of}
use Rattle.cg_resolve_def.specs.Expand.{bodies}
use Rattle.cg_surface.specs.Programs.{entry_of}
use Rattle.cg_resolve_takes.proofs.Places.{missing_is}
use Rattle.cg_resolve_takes.proofs.SaySteps.{loop_fault, say_steps}
use Rattle.cg_resolve_takes.specs.Missing.{absent_item}
use Rattle.cg_resolve_takes.proofs.takes.check_takes.Goals as goal

pub loop-item-init : goal.loop-item-init
loop-item-init c =
    missing_is (bodies (entries_of c.args.declared.now)) (entries_of c.args.declared.now) (entries_of c.args.declared.now)
    ∙ ap (λ h. flat_map (absent_item h) (entries_of c.args.declared.now)) (sym c.in_ok-table.ensures)
    ∙ flat_map-map _ entry_of c.args.declared.now.items.now

pub returns-in_err-check_item : goal.returns-in_err-check_item
returns-in_err-check_item c = search (rules, loop_fault, say_steps)
