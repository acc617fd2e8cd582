use Rattle.std.proofs.Common.{◌≡◌, take}
use Rattle.cg_resolve_declared.specs.Views.{entries_in, AreFunctions, signatures_in}
use Rattle.cg_resolve_declared.proofs.functions.functions.Given as goal

abbrev pub invariant-loop-item : goal.invariant-loop-item
invariant-loop-item l = (l.position ≡ signatures_in (entries_in (take l.item-index l.items))) × AreFunctions (entries_in (take l.item-index l.items)) l.table
