use Rattle.std.proofs.Common.{◌≡◌, map, take}
use Rattle.cg_surface.specs.Written.{written_of, field_of, alt_of, to_types, to_fields, to_alts}
use Rattle.cg_resolve_def.specs.Takes.{widest_of, widest_field, widest_alt}
use Rattle.cg_resolve_written.proofs.wide_types.+widest.Given as goal

abbrev pub invariant-widest_types-loop-ty : goal.invariant-widest_types-loop-ty
invariant-widest_types-loop-ty l = l.most ≡ widest_of (to_types (map written_of (take l.ty-index l.ty-items)))

abbrev pub invariant-widest_fields-loop-field : goal.invariant-widest_fields-loop-field
invariant-widest_fields-loop-field l = l.most ≡ widest_field (to_fields (map field_of (take l.field-index l.field-items)))

abbrev pub invariant-widest_choices-loop-choice : goal.invariant-widest_choices-loop-choice
invariant-widest_choices-loop-choice l = l.most ≡ widest_alt (to_alts (map alt_of (take l.choice-index l.choice-items)))
