use Rattle.std.proofs.Common.{◌≡◌, ◌++◌, [], map, take}
use Rattle.cg_surface.specs.Patterns.{pattern_of, field_of, to_patterns, to_fields}
use Rattle.cg_resolve_def.specs.Faults.{twins, names_of, all_variables, field_variables}
use Rattle.cg_resolve_names.proofs.patterns.+enter.Given as goal

abbrev pub invariant-enter_patterns-loop-part : goal.invariant-enter_patterns-loop-part
invariant-enter_patterns-loop-part l =
    (twins l.initial.scope (all_variables (to_patterns (map pattern_of (take l.part-index l.parts)))) ≡ [])
    × (l.scope ≡ l.initial.scope ++ names_of (all_variables (to_patterns (map pattern_of (take l.part-index l.parts)))))

abbrev pub invariant-enter_fields-loop-field : goal.invariant-enter_fields-loop-field
invariant-enter_fields-loop-field l =
    (twins l.initial.scope (field_variables (to_fields (map field_of (take l.field-index l.fields)))) ≡ [])
    × (l.scope ≡ l.initial.scope ++ names_of (field_variables (to_fields (map field_of (take l.field-index l.fields)))))
