-- What the generated source of a number is (docs/LANGUAGE.md, "Generator").
use Rattle.std.specs.Prelude.{ℕ, ◌≤◌, length}
use Rattle.cg_parser_def.specs.Grammar.{Spells}
use Rattle.cg_gen.specs.Generated.{source}
use Rattle.cg_gen_def.specs.Programs.{program}

-- The source of so many functions spells its program.
abbrev pub SourceIsSpelled : Type 0
SourceIsSpelled = (n : ℕ) → n ≤ 4096 → Spells (source n) (program n)

-- It is within the limit on sources (2^20 bytes).
abbrev pub SourceIsShort : Type 0
SourceIsShort = (n : ℕ) → n ≤ 4096 → length (source n) ≤ 1048576
