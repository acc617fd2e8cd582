-- Words.
use Rattle.std.specs.Prelude.{ℕ, Bool, true, false}
use Rattle.cg_base.specs.declared.kind.Word.{Word}
use Rattle.cg_base.specs.declared.kind.Word.TheVariants.{U8, U16, U32, U64}

-- how many bits a word has
abbrev pub bits : Word → ℕ
bits U8 = 8
bits U16 = 16
bits U32 = 32
bits U64 = 64

-- whether two words are one
abbrev pub same_word : Word → Word → Bool
same_word U8 U8 = true
same_word U16 U16 = true
same_word U32 U32 = true
same_word U64 U64 = true
same_word _ _ = false
