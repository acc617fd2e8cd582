-- The laws of what bytes spell, and of what parsing answers.
use Rattle.std.specs.Prelude.{◌≡◌, ℕ, List, Result, Ok, Err}
use Rattle.cg_surface.specs.declared.program.Program.{Program}
use Rattle.cg_surface.specs.Programs.{Entry, program_of}
use Rattle.cg_parser.specs.Answers.{Answers}
use Rattle.cg_parser_def.specs.Grammar.{Spells}
use Rattle.cg_parser.specs.declared.fault.ParseFault.{ParseFault}
use Rattle.cg_parser.specs.declared.fault.ParseFault.TheVariants.{Memory}

-- bytes spell at most one program
abbrev pub OneProgram : Type 0
OneProgram = (bytes : List ℕ) (p q : List Entry) → Spells bytes p → Spells bytes q → p ≡ q

-- the same program, or the same fault at the same place
abbrev pub Same : Result Program ParseFault → Result Program ParseFault → Type 0
Same (Ok p) (Ok q) = program_of p ≡ program_of q
Same (Err f) (Err g) = f ≡ g
Same (Ok p) (Err f) = ⊥
Same (Err f) (Ok p) = ⊥

-- two right answers for the same bytes are the same, where memory is wanting in neither
abbrev pub OneAnswer : Type 0
OneAnswer = (bytes : List ℕ) (a b : Result Program ParseFault) → Answers bytes a → Answers bytes b → (a ≡ Err Memory → ⊥) → (b ≡ Err Memory → ⊥) → Same a b
