use Rattle.std.proofs.Common.{◌≡◌, map, take}
use Rattle.cg_surface.specs.Patterns.{pattern_of, field_of, to_patterns, to_fields}
use Rattle.cg_resolve_def.specs.Takes.{widest_patterns, widest_fields}
use Rattle.cg_resolve_written.proofs.wide_patterns.+widest.Given as goal

abbrev pub invariant-widest_patterns-loop-pattern : goal.invariant-widest_patterns-loop-pattern
invariant-widest_patterns-loop-pattern l = l.most ≡ widest_patterns (to_patterns (map pattern_of (take l.pattern-index l.pattern-items)))

abbrev pub invariant-widest_fields-loop-field : goal.invariant-widest_fields-loop-field
invariant-widest_fields-loop-field l = l.most ≡ widest_fields (to_fields (map field_of (take l.field-index l.field-items)))
