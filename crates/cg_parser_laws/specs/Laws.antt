-- The laws of the grammar. Each line and column of a text with fewer bytes than the greatest line and column that are told is told.
use Rattle.std.specs.Prelude.{ℕ, ◌<◌, List, length}
use Rattle.std.specs.List.{AllByRecursion}
use Rattle.cg_base.specs.Bytes.{Each, Starts}
use Rattle.cg_base.specs.Places.{most}
use Rattle.cg_lexer.specs.Bytes.{part_of_name, small}
use Rattle.cg_surface.specs.Programs.{Entry}
use Rattle.cg_resolve_def.specs.Desugar.{functions_of}
use Rattle.cg_resolve_def.specs.Faults.{program_faults}
use Rattle.cg_resolve_def.specs.Order.{AreGrowing, AreOrdered}
use Rattle.cg_resolve_def.specs.Takes.{missing_fields}
use Rattle.cg_resolve_def.specs.Shaped.{IsShaped}
use Rattle.cg_parser_def.specs.Grammar.{Spells}

-- each program that the bytes of a text spell has a shape that the grammar gives
abbrev pub SpelledIsShaped : Type 0
SpelledIsShaped = (bytes : List ℕ) (p : List Entry) → Spells bytes p → IsShaped p

-- The faults N1, N2 and N4 of a program that such a text spells stand in order, each before all later ones: by place, and at one place by the
-- number of the rule. So the first of them is the least.
abbrev pub SpelledFaultsAreOrdered : Type 0
SpelledFaultsAreOrdered = (bytes : List ℕ) (p : List Entry) → length bytes < most → Spells bytes p → AreOrdered (program_faults p)

-- the places of N5 of a program that such a text spells grow, each before all later ones
abbrev pub SpelledTakesGrow : Type 0
SpelledTakesGrow = (bytes : List ℕ) (p : List Entry) → length bytes < most → Spells bytes p → AreGrowing (missing_fields p)

-- a name of a variable or function: it begins with a small letter or `_` and goes on as names do
abbrev pub IsNamed : List ℕ → Type 0
IsNamed name = Starts small name × Each part_of_name name

-- the functions of a program that the bytes of a text spell have such names
abbrev pub SpelledIsNamed : Type 0
SpelledIsNamed = (bytes : List ℕ) (p : List Entry) → Spells bytes p → AllByRecursion (λ f. IsNamed f.at.name) (functions_of p)
