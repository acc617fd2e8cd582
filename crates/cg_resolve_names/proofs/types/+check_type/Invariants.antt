use Rattle.std.proofs.Common.{◌≡◌, [], map, take}
use Rattle.cg_surface.specs.Written.{written_of, field_of, alt_of, to_types, to_fields, to_alts}
use Rattle.cg_resolve_def.specs.Faults.{types_faults, fields_faults, alts_faults, field_names, alt_names}
use Rattle.cg_resolve_declared.specs.Declarations.{entries_of}
use Rattle.cg_resolve_names.specs.Scopes.{SameNames}
use Rattle.cg_resolve_names.proofs.types.+check_type.Given as goal

abbrev pub invariant-check_types-loop-ty : goal.invariant-check_types-loop-ty
invariant-check_types-loop-ty l = types_faults (entries_of l.declared) l.vars (to_types (map written_of (take l.ty-index l.types))) ≡ []

abbrev pub invariant-check_fields-loop-field : goal.invariant-check_fields-loop-field
invariant-check_fields-loop-field l =
    (fields_faults (entries_of l.declared) l.vars (to_fields (map field_of (take l.field-index l.fields))) ≡ [])
    × SameNames l.before (field_names (to_fields (map field_of (take l.field-index l.fields))))

abbrev pub invariant-check_alternatives-loop-choice : goal.invariant-check_alternatives-loop-choice
invariant-check_alternatives-loop-choice l =
    (alts_faults (entries_of l.declared) l.vars (to_alts (map alt_of (take l.choice-index l.choices))) ≡ [])
    × SameNames l.before (alt_names (to_alts (map alt_of (take l.choice-index l.choices))))
