use Rattle.std.proofs.Common.{◌≡◌, ◌≤◌, map, take}
use Rattle.cg_surface.specs.Written.{written_of, field_of, alt_of, to_types, to_fields, to_alts}
use Rattle.cg_resolve_def.specs.Desugar.{type_limit}
use Rattle.cg_resolve_expand.specs.Known.{known_of}
use Rattle.cg_resolve_written.specs.Capped.{capped}
use Rattle.cg_resolve_written.specs.Sizes.{sizes, total, total_fields, total_alts, greatest_of, greatest_field, greatest_alt}
use Rattle.cg_resolve_written.proofs.size.+size.Given as goal

abbrev pub invariant-sizes-loop-ty : goal.invariant-sizes-loop-ty
invariant-sizes-loop-ty l =
    (l.sizes.items ≡ sizes (known_of l.synonyms) (to_types (map written_of (take l.ty-index l.ty-items))))
    × (greatest_of (known_of l.synonyms) (to_types (map written_of (take l.ty-index l.ty-items))) ≤ type_limit)

abbrev pub invariant-total-loop-ty : goal.invariant-total-loop-ty
invariant-total-loop-ty l =
    (l.total ≡ capped (total (known_of l.synonyms) (to_types (map written_of (take l.ty-index l.ty-items)))))
    × (greatest_of (known_of l.synonyms) (to_types (map written_of (take l.ty-index l.ty-items))) ≤ type_limit)

abbrev pub invariant-total_fields-loop-field : goal.invariant-total_fields-loop-field
invariant-total_fields-loop-field l =
    (l.total ≡ capped (total_fields (known_of l.synonyms) (to_fields (map field_of (take l.field-index l.field-items)))))
    × (greatest_field (known_of l.synonyms) (to_fields (map field_of (take l.field-index l.field-items))) ≤ type_limit)

abbrev pub invariant-total_choices-loop-choice : goal.invariant-total_choices-loop-choice
invariant-total_choices-loop-choice l =
    (l.total ≡ capped (total_alts (known_of l.synonyms) (to_alts (map alt_of (take l.choice-index l.choice-items)))))
    × (greatest_alt (known_of l.synonyms) (to_alts (map alt_of (take l.choice-index l.choice-items))) ≤ type_limit)
