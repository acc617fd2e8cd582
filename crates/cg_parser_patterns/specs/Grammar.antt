-- Which tokens spell which pattern (docs/LANGUAGE.md, "Patterns").
use Rattle.std.specs.Prelude.{◌≡◌, ◌⊎◌, List, [], ⊤}
use Rattle.cg_core.specs.declared.at.At.{At}
use Rattle.cg_surface.specs.Patterns.{Pattern, name, any, unit, paren, tuple, fields, take, Patterns, no_patterns, and_pattern, FieldPatterns, no_fields, and_field}
use Rattle.cg_parser_symbols.specs.Symbols.{lower, wildcard, opening, closing, brace, closing_brace, unboxed, equals, comma, Seen}
use Rattle.cg_parser_symbols.specs.Readings.{Reading, ◌then◌, token, sign}

-- there are two at least
abbrev pub AreMany : Patterns → Type 0
AreMany no_patterns = ⊥
AreMany (and_pattern no_patterns x) = ⊥
AreMany (and_pattern (and_pattern xs y) x) = ⊤

-- a field with its pattern, where this is how the pattern is read; one that is written alone is bound to its own name, at its
-- own place
abbrev pub FieldAs : Reading → At → Pattern → Reading
FieldAs R at x ts rest =
    ((x ≡ name at.place at.name) × token (lower at.name) at.place ts rest)
    ⊎ ((token (lower at.name) at.place then sign equals then R) ts rest)

abbrev mutual
  -- the tokens from `ts` on spell the pattern, and `rest` stands behind it
  pub ReadsPattern : Pattern → Reading
  ReadsPattern (name p n) ts rest = token (lower n) p ts rest
  ReadsPattern (any p) ts rest = token wildcard p ts rest
  ReadsPattern (unit p) ts rest = (token opening p then sign closing) ts rest
  ReadsPattern (paren p x) ts rest = (token opening p then ReadsPattern x then sign closing) ts rest
  ReadsPattern (tuple p xs) ts rest = AreMany xs × (token opening p then ReadsList xs then sign closing) ts rest
  ReadsPattern (fields p fs) ts rest = (token unboxed p then ReadsFields fs then sign closing_brace) ts rest
  ReadsPattern (take p n fs) ts rest = (token (lower n) p then sign brace then ReadsFields fs then sign closing_brace) ts rest

  -- patterns, each with a comma behind it; and patterns parted by commas
  pub PatternsBefore : Patterns → Reading
  PatternsBefore no_patterns ts rest = ts ≡ rest
  PatternsBefore (and_pattern xs x) ts rest = (PatternsBefore xs then ReadsPattern x then sign comma) ts rest

  pub ReadsList : Patterns → Reading
  ReadsList no_patterns ts rest = ⊥
  ReadsList (and_pattern xs x) ts rest = (PatternsBefore xs then ReadsPattern x) ts rest

  -- fields
  pub FieldsBefore : FieldPatterns → Reading
  FieldsBefore no_fields ts rest = ts ≡ rest
  FieldsBefore (and_field fs at x) ts rest = (FieldsBefore fs then FieldAs (ReadsPattern x) at x then sign comma) ts rest

  pub ReadsFields : FieldPatterns → Reading
  ReadsFields no_fields ts rest = ⊥
  ReadsFields (and_field fs at x) ts rest = (FieldsBefore fs then FieldAs (ReadsPattern x) at x) ts rest

-- the tokens spell the pattern
abbrev pub SpellsPattern : List Seen → Pattern → Type 0
SpellsPattern ts x = ReadsPattern x ts []
