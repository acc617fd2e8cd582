-- The laws of the readers of types.
use Rattle.cg_surface.specs.Written.{depth_of}
use Rattle.cg_parser_symbols.specs.Exactness.{IsExact, IsExactUpTo}
use Rattle.cg_parser_types.specs.Bounded.{depth_limit, bounded_reader}
use Rattle.cg_parser_types.specs.Grammar.{SpellsType}
use Rattle.cg_parser_types.specs.Plain.{plain_reader}

-- the reader of whole trees gives a type exactly where the tokens spell it, and is open exactly where some type's tokens begin
-- with these
abbrev pub WholeTypesAreReadExactly : Type 0
WholeTypesAreReadExactly = IsExact plain_reader SpellsType

-- so does the reader of the contracts of `TypeReader`, where the type is no deeper than the limit; it says of deeper ones that
-- they are too deep
abbrev pub TypesAreReadExactly : Type 0
TypesAreReadExactly = IsExactUpTo depth_limit depth_of bounded_reader SpellsType
