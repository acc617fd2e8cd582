use Rattle.std.proofs.Common.{◌≡◌, map, take}
use Rattle.cg_surface.specs.Programs.{entry_of}
use Rattle.cg_resolve_def.specs.Takes.{widest_part}
use Rattle.cg_resolve_written.proofs.wide.is_too_wide.Given as goal

abbrev pub invariant-loop-item : goal.invariant-loop-item
invariant-loop-item l = l.most ≡ widest_part (map entry_of (take l.item-index l.items))
