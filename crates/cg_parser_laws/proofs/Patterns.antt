-- A pattern that the tokens spell is shaped. Of a reading `r` of parts, one behind the other, `r.0` are the tokens behind
-- the first part, `r.1` is how that is read, and `r.2` how the others are.
use Rattle.std.proofs.Common.{◌≤◌, List, [], ⊎_elim, sym, subst as carry, arith}
use Rattle.cg_core.specs.declared.at.At.{At}
use Rattle.cg_surface.specs.Patterns.{Pattern, Patterns, FieldPatterns}
use Rattle.cg_surface.specs.Patterns as patterns
use Rattle.cg_parser_symbols.specs.Symbols.{Seen}
use Rattle.cg_parser_symbols.specs.Readings.{Reading}
use Rattle.cg_parser_patterns.specs.Grammar.{AreMany, FieldAs, FieldsBefore, PatternsBefore, ReadsFields, ReadsList, ReadsPattern, SpellsPattern}
use Rattle.cg_resolve_def.specs.Takes.{patterns_length}
use Rattle.cg_resolve_def.specs.Shaped.{AreShapedPatterned, AreShapedPatterns, IsShapedPattern, patterned_length}

-- a tuple has two components at least, and fields are one at least
patterns_many : (xs : Patterns) → AreMany xs → 2 ≤ patterns_length xs
patterns_many patterns.no_patterns m = absurd m
patterns_many (patterns.and_pattern patterns.no_patterns x) m = absurd m
patterns_many (patterns.and_pattern (patterns.and_pattern xs y) x) m = omega arith

fields_some : (fs : FieldPatterns) (ts rest : List Seen) → ReadsFields fs ts rest → 1 ≤ patterned_length fs
fields_some patterns.no_fields ts rest r = absurd r
fields_some (patterns.and_field fs at x) ts rest r = omega arith

-- a field's pattern is a name, where none is written, and else is as it is read
field_shaped : (R : Reading) (at : At) (x : Pattern) (ts rest : List Seen) → ((from to : List Seen) → R from to → IsShapedPattern x) → FieldAs R at x ts rest → IsShapedPattern x
field_shaped R at x ts rest shaped r = ⊎_elim (λ f. carry IsShapedPattern (sym f.0) tt) (λ f. shaped f.2.0 rest f.2.2) r

mutual
  pattern_shaped : (x : Pattern) (ts rest : List Seen) → ReadsPattern x ts rest → IsShapedPattern x
  pattern_shaped (patterns.name p n) ts rest r = tt
  pattern_shaped (patterns.any p) ts rest r = tt
  pattern_shaped (patterns.unit p) ts rest r = tt
  pattern_shaped (patterns.paren p x) ts rest r = pattern_shaped x r.0 r.2.0 r.2.1
  pattern_shaped (patterns.tuple p xs) ts rest r = (patterns_many xs r.0, list_shaped xs r.1.0 r.1.2.0 r.1.2.1)
  pattern_shaped (patterns.fields p fs) ts rest r = (fields_some fs r.0 r.2.0 r.2.1, fields_shaped fs r.0 r.2.0 r.2.1)
  pattern_shaped (patterns.take p n fs) ts rest r = (fields_some fs r.2.0 r.2.2.0 r.2.2.1, fields_shaped fs r.2.0 r.2.2.0 r.2.2.1)

  patterns_before : (xs : Patterns) (ts rest : List Seen) → PatternsBefore xs ts rest → AreShapedPatterns xs
  patterns_before patterns.no_patterns ts rest r = tt
  patterns_before (patterns.and_pattern xs x) ts rest r = (patterns_before xs ts r.0 r.1, pattern_shaped x r.0 r.2.0 r.2.1)

  list_shaped : (xs : Patterns) (ts rest : List Seen) → ReadsList xs ts rest → AreShapedPatterns xs
  list_shaped patterns.no_patterns ts rest r = tt
  list_shaped (patterns.and_pattern xs x) ts rest r = (patterns_before xs ts r.0 r.1, pattern_shaped x r.0 rest r.2)

  fields_before : (fs : FieldPatterns) (ts rest : List Seen) → FieldsBefore fs ts rest → AreShapedPatterned fs
  fields_before patterns.no_fields ts rest r = tt
  fields_before (patterns.and_field fs at x) ts rest r = (fields_before fs ts r.0 r.1, field_shaped (ReadsPattern x) at x r.0 r.2.0 (pattern_shaped x) r.2.1)

  fields_shaped : (fs : FieldPatterns) (ts rest : List Seen) → ReadsFields fs ts rest → AreShapedPatterned fs
  fields_shaped patterns.no_fields ts rest r = tt
  fields_shaped (patterns.and_field fs at x) ts rest r = (fields_before fs ts r.0 r.1, field_shaped (ReadsPattern x) at x r.0 rest (pattern_shaped x) r.2)

pub spelled_pattern_shaped : (ts : List Seen) (x : Pattern) → SpellsPattern ts x → IsShapedPattern x
spelled_pattern_shaped ts x s = pattern_shaped x ts [] s
