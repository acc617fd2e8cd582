-- Whether two words are one.
use Rattle.std.proofs.Common.{◌≡◌, true, refl}
use Rattle.cg_base.specs.declared.kind.Word.{Word}
use Rattle.cg_base.specs.declared.kind.Word.TheVariants.{U8, U16, U32, U64}
use Rattle.cg_base.specs.Words.{same_word}

pub word_is : (v w : Word) → same_word v w ≡ true → v ≡ w
word_is U8 U8 h = refl
word_is U16 U16 h = refl
word_is U32 U32 h = refl
word_is U64 U64 h = refl
word_is v w h = absurd (cc)

pub word_same : (w : Word) → same_word w w ≡ true
word_same U8 = refl
word_same U16 = refl
word_same U32 = refl
word_same U64 = refl
