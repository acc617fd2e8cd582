use Rattle.std.proofs.Common.{◌≡◌, take, drop}
use Rattle.cg_resolve_def.specs.Faults.{beforehand, faults_from, program_faults}
use Rattle.cg_resolve_declared.specs.Declarations.{entries_of}
use Rattle.cg_resolve_declared.specs.Views.{entries_in}
use Rattle.cg_resolve_names.specs.Behind.{IsBehind, declared_before}
use Rattle.cg_resolve_names.proofs.items.check_names.Given as goal

abbrev pub invariant-loop-item : goal.invariant-loop-item
invariant-loop-item l =
    IsBehind (declared_before beforehand (entries_in (take l.item-index l.item-items))) l.behind
    × (program_faults (entries_of l.declared)
    ≡ faults_from (entries_of l.declared) (declared_before beforehand (entries_in (take l.item-index l.item-items))) (entries_in (drop l.item-index l.item-items)))
