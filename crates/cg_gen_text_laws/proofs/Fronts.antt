-- Texts of tokens that stand in front of other bytes.
use Rattle.std.proofs.Common.{◌≡◌, ℕ, false, List, [], ◌∷◌, ◌++◌, length, sym}
use Rattle.std.specs.Prelude.{◌==◌}
use Rattle.std.proofs.Math.Seq.{take-append_seam, drop-append_seam}
use Rattle.cg_lexer.specs.declared.token.TokenKind.{TokenKind}
use Rattle.cg_lexer.specs.Tokens.{IsTextOf, IsLongest}
use Rattle.cg_lexer.specs.Front.{piece_length, front_length, kind_of, sign_length}
use Rattle.cg_lexer.proofs.Cuts.{IsFront, front}

-- a text is one of a kind of token, the longest with these bytes behind it
abbrev pub Splits : TokenKind → List ℕ → List ℕ → Type 0
Splits kind text rest = IsTextOf kind text × IsLongest text rest

is_front : (text rest : List ℕ) → piece_length (text ++ rest) ≡ 0 → front_length (text ++ rest) ≡ length text → (length text == 0) ≡ false
    → IsFront (text ++ rest) text rest
is_front text rest clear long some = front (text ++ rest) text rest (length text) clear (sym long) (sym (take-append_seam text rest)) (sym (drop-append_seam text rest)) some

-- what the lexer finds in front is of the kind that it tells
pub splits : (text rest : List ℕ) → piece_length (text ++ rest) ≡ 0 → front_length (text ++ rest) ≡ length text → (length text == 0) ≡ false
    → Splits (kind_of text) text rest
splits text rest clear long some = let f = is_front text rest clear long some in (f.fits, f.longest)

pub longest : (text rest : List ℕ) → piece_length (text ++ rest) ≡ 0 → front_length (text ++ rest) ≡ length text → (length text == 0) ≡ false
    → IsLongest text rest
longest text rest clear long some = (is_front text rest clear long some).longest

-- a sign of one byte that no third byte makes longer
pub alone : (a b : ℕ) (rest : List ℕ) → sign_length (a ∷ b ∷ []) ≡ 1 → ((c : ℕ) (more : List ℕ) → sign_length (a ∷ b ∷ c ∷ more) ≡ 1)
    → sign_length (a ∷ b ∷ rest) ≡ 1
alone a b [] none some = none
alone a b (c ∷ rest) none some = some c rest
