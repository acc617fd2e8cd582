use Rattle.std.proofs.Common.{◌≡◌, map, take}
use Rattle.cg_surface.specs.Written.{written_of, field_of, alt_of, to_types, to_fields, to_alts}
use Rattle.cg_resolve_def.specs.Mentions.{types_mentions, fields_mentions, alts_mentions}
use Rattle.cg_resolve_mentions.specs.Positions.{pushed}
use Rattle.cg_resolve_mentions.proofs.types.+push_type.Given as goal

abbrev pub invariant-push_types-loop-ty : goal.invariant-push_types-loop-ty
invariant-push_types-loop-ty l = l.targets.items ≡ pushed l.synonyms l.initial.targets.items (types_mentions (to_types (map written_of (take l.ty-index l.types))))

abbrev pub invariant-push_fields-loop-field : goal.invariant-push_fields-loop-field
invariant-push_fields-loop-field l = l.targets.items ≡ pushed l.synonyms l.initial.targets.items (fields_mentions (to_fields (map field_of (take l.field-index l.fields))))

abbrev pub invariant-push_alternatives-loop-choice : goal.invariant-push_alternatives-loop-choice
invariant-push_alternatives-loop-choice l = l.targets.items ≡ pushed l.synonyms l.initial.targets.items (alts_mentions (to_alts (map alt_of (take l.choice-index l.choices))))
