-- The laws of the readers of patterns.
use Rattle.cg_surface.specs.Patterns.{depth_of}
use Rattle.cg_parser_symbols.specs.Exactness.{IsExact, IsExactUpTo}
use Rattle.cg_parser_patterns.specs.Bounded.{depth_limit, bounded_reader}
use Rattle.cg_parser_patterns.specs.Grammar.{SpellsPattern}
use Rattle.cg_parser_patterns.specs.Plain.{plain_reader}

-- the reader of whole trees gives a pattern exactly where the tokens spell it, and is open exactly where some pattern's tokens
-- begin with these
abbrev pub WholePatternsAreReadExactly : Type 0
WholePatternsAreReadExactly = IsExact plain_reader SpellsPattern

-- so does the reader of the contracts of `PatternReader`, where the pattern is no deeper than the limit; it says of deeper ones
-- that they are too deep
abbrev pub PatternsAreReadExactly : Type 0
PatternsAreReadExactly = IsExactUpTo depth_limit depth_of bounded_reader SpellsPattern
