use Rattle.std.proofs.Common.{◌≡◌, ◌+◌, ◌*◌, ◌<◌, drop, length, map, Some}
use Rattle.cg_core.specs.Kernels.{the_term}
use Rattle.cg_resolve_def.specs.Desugar.{depth_of}
use Rattle.cg_surface.specs.Patterns.{field_of}
use Rattle.cg_resolve_sites.specs.Sites.{scope_in, level, Moved}
use Rattle.cg_resolve_sites.specs.Stands.{HasRoom}
use Rattle.cg_resolve_binders.specs.Parts.{taken_from}
use Rattle.cg_resolve_binders.proofs.binders.take_fields.Given as goal

abbrev pub invariant-loop-field : goal.invariant-loop-field
invariant-loop-field l =
    Moved l.initial.site (taken_from l.place (map field_of l.field-items) (the_term l.initial.whole) (scope_in l.initial.site))
    l.site (taken_from l.place (map field_of (drop l.field-index l.field-items)) (the_term l.whole) (scope_in l.site))
    × (l.field-index < length l.field-items → HasRoom (Some 1) (level l.site) (depth_of (the_term l.whole)))
    × (length l.site.scope.items ≡ length l.initial.site.scope.items + 2 * l.field-index)
