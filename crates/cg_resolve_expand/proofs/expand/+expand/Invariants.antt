use Rattle.std.proofs.Common.{◌≡◌, [], map, take}
use Rattle.cg_base.specs.Types.{type_of, part_of}
use Rattle.cg_surface.specs.Written.{written_of, field_of, to_types, to_fields}
use Rattle.cg_resolve_declared.specs.Tables.{texts}
use Rattle.cg_resolve_def.specs.Expand.{components, expanded_all, expanded_fields}
use Rattle.cg_resolve_expand.specs.Known.{known_of}
use Rattle.cg_resolve_expand.specs.Pieces.{alt_piece}
use Rattle.cg_resolve_expand.proofs.expand.+expand.Given as goal

abbrev pub invariant-expand_types-loop-ty : goal.invariant-expand_types-loop-ty
invariant-expand_types-loop-ty l = map type_of l.expanded ≡ expanded_all (known_of l.synonyms) (texts l.vars) (to_types (map written_of (take l.ty-index l.ty-items))) []

abbrev pub invariant-expand_tuple-loop-before : goal.invariant-expand_tuple-loop-before
invariant-expand_tuple-loop-before l = map part_of l.parts ≡ components (known_of l.synonyms) (texts l.vars) (to_types (map written_of (take l.before l.ty-items))) []

abbrev pub invariant-expand_fields-loop-field : goal.invariant-expand_fields-loop-field
invariant-expand_fields-loop-field l = map part_of l.parts ≡ expanded_fields (known_of l.synonyms) (texts l.vars) (to_fields (map field_of (take l.field-index l.field-items))) []

abbrev pub invariant-expand_choices-loop-choice : goal.invariant-expand_choices-loop-choice
invariant-expand_choices-loop-choice l = map part_of l.parts ≡ map (alt_piece (known_of l.synonyms) (texts l.vars)) (map (λ choice. choice.now) (take l.choice-index l.choice-items))
