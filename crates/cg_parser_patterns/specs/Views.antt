-- What the reader's own values stand for.
use Rattle.std.specs.Prelude.{map, Option, Some, None}
use Rattle.cg_surface.specs.Patterns.{Pattern, Patterns, FieldPatterns, pattern_of, field_of, to_patterns, to_fields}
use Rattle.cg_parser_patterns.specs.declared.built.BuiltPattern.{BuiltPattern}
use Rattle.cg_parser_patterns.specs.declared.built.BuiltPatterns.{BuiltPatterns}
use Rattle.cg_parser_patterns.specs.declared.built.BuiltFields.{BuiltFields}
use Rattle.cg_parser_patterns.specs.declared.built.PatternEnd.{PatternEnd}
use Rattle.cg_parser_patterns.specs.declared.built.PatternEnd.TheVariants.{Unfinished, TooDeep, Whole}

-- a pattern, where there is one
abbrev pub view_of : Option BuiltPattern → Option Pattern
view_of None = None
view_of (Some b) = Some (pattern_of b.tree)

-- patterns, and fields
abbrev pub patterns_of : Option BuiltPatterns → Option Patterns
patterns_of None = None
patterns_of (Some b) = Some (to_patterns (map pattern_of b.items))

abbrev pub fields_of : Option BuiltFields → Option FieldPatterns
fields_of None = None
fields_of (Some b) = Some (to_fields (map field_of b.items))

-- what the end of a pattern is
abbrev pub end_of : PatternEnd → Option (Option Pattern)
end_of Unfinished = None
end_of TooDeep = Some None
end_of (Whole b) = Some (Some (pattern_of b.tree))
