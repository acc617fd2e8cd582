-- What carries a machine over tokens, wherever the machine stands in another.
use Rattle.std.proofs.Common.{◌≡◌, List, true, Bool}
use Rattle.cg_ctree.specs.Spells.{token}
use Rattle.cg_ctree.specs.Tokens.{Lexeme}
use Rattle.cg_cread_parts.specs.Symbols.{Symbol, token_of}
use Rattle.cg_cread_parts.proofs.Known.{Fits}

-- what holds where a machine has read one symbol more, held before it
abbrev pub Moves : (M : Type 0) → (M → Symbol → M) → (Symbol → Bool) → (M → List Lexeme → Type 0) → Type 0
Moves M step inside P = (y : Symbol) → Fits y → inside y ≡ true → (m : M) (ts rest : List Lexeme) → token (token_of y) ts rest → P (step m y) rest → P m ts

-- the same, where it depends on where the machine stands which symbols it is handed
abbrev pub MovesAt : (M : Type 0) → (M → Symbol → M) → (M → Symbol → Bool) → (M → List Lexeme → Type 0) → Type 0
MovesAt M step inside P = (y : Symbol) → Fits y → (m : M) → inside m y ≡ true → (ts rest : List Lexeme) → token (token_of y) ts rest → P (step m y) rest → P m ts
