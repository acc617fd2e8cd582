use Rattle.std.proofs.Common.{◌≡◌, drop}
use Rattle.std.specs.List.{flat_map}
use Rattle.cg_resolve_declared.specs.Declarations.{entries_of}
use Rattle.cg_resolve_def.specs.Takes.{missing_fields}
use Rattle.cg_surface.specs.Programs.{entry_of}
use Rattle.cg_resolve_takes.specs.Missing.{absent_item}
use Rattle.cg_resolve_takes.specs.Views.{heads_in}
use Rattle.cg_resolve_takes.proofs.takes.check_takes.Given as goal

abbrev pub invariant-loop-item : goal.invariant-loop-item
invariant-loop-item l = missing_fields (entries_of l.declared) ≡ flat_map (λ i. absent_item (heads_in l.table) (entry_of i)) (drop l.item-index l.item-items)
