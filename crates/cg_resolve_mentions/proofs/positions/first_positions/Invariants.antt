use Rattle.std.proofs.Common.{◌≡◌, length, take}
use Rattle.cg_resolve_declared.specs.Views.{entries_in}
use Rattle.cg_resolve_mentions.specs.Positions.{AreFirsts}
use Rattle.cg_resolve_mentions.proofs.positions.first_positions.Given as goal

abbrev pub invariant-loop-item : goal.invariant-loop-item
invariant-loop-item l = (l.position ≡ length (entries_in (take l.item-index l.items))) × AreFirsts (entries_in (take l.item-index l.items)) l.firsts
