use Rattle.std.proofs.Common.{take}
use Rattle.cg_resolve_declared.specs.Views.{entries_in, AreTypes}
use Rattle.cg_resolve_declared.proofs.types.types.Given as goal

abbrev pub invariant-loop-item : goal.invariant-loop-item
invariant-loop-item l = AreTypes (entries_in (take l.item-index l.items)) l.table
