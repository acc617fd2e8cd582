use Rattle.std.proofs.Common.{◌≡◌, ◌+◌, ◌*◌, drop, map}
use Rattle.cg_surface.specs.Patterns.{pattern_of, field_of}
use Rattle.cg_resolve_sites.specs.Sites.{scope_in, Moved}
use Rattle.cg_resolve_binders.specs.Parts.{all_later}
use Rattle.cg_resolve_binders.proofs.binders.+bind.Given as goal

abbrev pub invariant-bind_items-loop-item : goal.invariant-bind_items-loop-item
invariant-bind_items-loop-item l =
    Moved l.initial.site (all_later (map pattern_of l.item-items) l.first (scope_in l.initial.site))
    l.site (all_later (map pattern_of (drop l.item-index l.item-items)) l.at (scope_in l.site))
    × (l.at ≡ l.first + 2 * l.item-index)

abbrev pub invariant-bind_parts-loop-field : goal.invariant-bind_parts-loop-field
invariant-bind_parts-loop-field l =
    Moved l.initial.site (all_later (map (λ f. f.pattern) (map field_of l.field-items)) l.first (scope_in l.initial.site))
    l.site (all_later (map (λ f. f.pattern) (map field_of (drop l.field-index l.field-items))) l.at (scope_in l.site))
    × (l.at ≡ l.first + 2 * l.field-index)
