-- What holds of all C texts.
use Rattle.std.specs.Prelude.{◌≡◌, ℕ, List}
use Rattle.cg_ctree.specs.Spells.{CSpells}
use Rattle.cg_ctree.specs.Trees.{Program}

-- a text is one program at most (docs/LANGUAGE.md, "The C text")
abbrev pub OneProgram : Type 0
OneProgram = (bytes : List ℕ) (p q : Program) → CSpells bytes p → CSpells bytes q → p ≡ q
