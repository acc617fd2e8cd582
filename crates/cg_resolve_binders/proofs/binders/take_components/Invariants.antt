use Rattle.std.proofs.Common.{◌≡◌, ◌+◌, ◌*◌, ◌<◌, drop, length, map, Some}
use Rattle.cg_core.specs.Kernels.{the_term}
use Rattle.cg_resolve_def.specs.Desugar.{depth_of}
use Rattle.cg_surface.specs.Patterns.{pattern_of}
use Rattle.cg_resolve_sites.specs.Sites.{scope_in, level, Moved}
use Rattle.cg_resolve_sites.specs.Stands.{HasRoom}
use Rattle.cg_resolve_binders.specs.Parts.{numbered, taken_from}
use Rattle.cg_resolve_binders.proofs.binders.take_components.Given as goal

abbrev pub invariant-loop-item : goal.invariant-loop-item
invariant-loop-item l =
    Moved l.initial.site (taken_from l.place (numbered 0 (map pattern_of l.item-items)) (the_term l.initial.whole) (scope_in l.initial.site))
    l.site (taken_from l.place (numbered l.index (map pattern_of (drop l.item-index l.item-items))) (the_term l.whole) (scope_in l.site))
    × (l.index ≡ l.item-index)
    × (l.item-index < length l.item-items → HasRoom (Some 1) (level l.site) (depth_of (the_term l.whole)))
    × (length l.site.scope.items ≡ length l.initial.site.scope.items + 2 * l.item-index)
