-- The machine over trees up to the depth of the language, past which there is none.
use Rattle.std.specs.Prelude.{Option, Some, None, nat_le, if◌then◌else◌}
use Rattle.cg_base.specs.Reader.{Reader}
use Rattle.cg_core.specs.declared.at.At.{At}
use Rattle.cg_surface.specs.Patterns.{Pattern, name, any, unit, paren, tuple, fields, take, depth_of, Patterns, no_patterns, and_pattern, patterns_depth, FieldPatterns, no_fields, and_field, fields_depth}
pub use Rattle.cg_surface.specs.Limits.{depth_limit}
use Rattle.cg_parser_symbols.specs.Symbols.{Seen}
use Rattle.cg_parser_patterns.specs.Machine as machine
use Rattle.cg_parser_patterns.specs.Machine.{Builder, Mode}

-- a pattern, where it is no deeper than allowed
abbrev pub within : Pattern → Option Pattern
within x = if nat_le (depth_of x) depth_limit then Some x else None

-- the same of patterns, and of fields
abbrev pub within_patterns : Patterns → Option Patterns
within_patterns xs = if nat_le (patterns_depth xs) depth_limit then Some xs else None

abbrev pub within_fields : FieldPatterns → Option FieldPatterns
within_fields fs = if nat_le (fields_depth fs) depth_limit then Some fs else None

-- a pattern made of one, of patterns or of fields
abbrev pub made : {A : Type 0} → (A → Pattern) → Option A → Option Pattern
made f None = None
made f (Some a) = within (f a)

-- a pattern more
abbrev pub joined : Option Patterns → Option Pattern → Option Patterns
joined None x = None
joined (Some xs) None = None
joined (Some xs) (Some x) = Some (and_pattern xs x)

-- a field more
abbrev pub bound : Option FieldPatterns → At → Option Pattern → Option FieldPatterns
bound None at x = None
bound (Some fs) at None = None
bound (Some fs) at (Some x) = Some (and_field fs at x)

-- patterns, and lists of them and of fields, where they are no deeper than allowed
abbrev pub bounded : Builder (Option Pattern) (Option Patterns) (Option FieldPatterns)
bounded = record {
  name = λ p n. Some (name p n);
  any = λ p. Some (any p);
  unit = λ p. Some (unit p);
  paren = λ p x. made (paren p) x;
  tuple = λ p xs. made (tuple p) xs;
  fields = λ p fs. made (fields p) fs;
  take = λ p n fs. made (take p n) fs;
  no_patterns = Some no_patterns;
  and_pattern = joined;
  no_fields = Some no_fields;
  and_field = bound;
}

-- its states
abbrev pub Held : Type 0
Held = Mode (Option Pattern) (Option Patterns) (Option FieldPatterns)

-- as a reader
abbrev pub bounded_reader : Reader Held Seen (Option Pattern)
bounded_reader = machine.reader bounded
