-- The machine over whole trees, however deep they are.
use Rattle.cg_base.specs.Reader.{Reader}
use Rattle.cg_surface.specs.Patterns.{Pattern, name, any, unit, paren, tuple, fields, take, Patterns, no_patterns, and_pattern, FieldPatterns, no_fields, and_field}
use Rattle.cg_parser_symbols.specs.Symbols.{Seen}
use Rattle.cg_parser_patterns.specs.Machine as machine
use Rattle.cg_parser_patterns.specs.Machine.{Builder, Mode}

-- patterns, and lists of them and of fields, as they are
abbrev pub trees : Builder Pattern Patterns FieldPatterns
trees = record {
  name = name;
  any = any;
  unit = unit;
  paren = paren;
  tuple = tuple;
  fields = fields;
  take = take;
  no_patterns = no_patterns;
  and_pattern = and_pattern;
  no_fields = no_fields;
  and_field = and_field;
}

-- its states
abbrev pub Stage : Type 0
Stage = Mode Pattern Patterns FieldPatterns

-- as a reader
abbrev pub plain_reader : Reader Stage Seen Pattern
plain_reader = machine.reader trees
