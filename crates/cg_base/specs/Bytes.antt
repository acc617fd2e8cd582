-- Kinds of bytes that all texts share, and what bytes of a kind are (docs/LANGUAGE.md, "Tokens").
use Rattle.std.specs.Prelude.{◌≡◌, ℕ, Bool, true, false, ◌||◌, ◌&&◌, ◌==◌, nat_le, List, [], ◌∷◌, ⊤}
use Rattle.std.specs.List.{AllByRecursion}

-- space, tab, LF and CR
abbrev pub white : ℕ → Bool
white b = b == 32 || b == 9 || b == 10 || b == 13

-- a decimal digit
abbrev pub digit : ℕ → Bool
digit b = nat_le 48 b && nat_le b 57

-- every byte passes
abbrev pub Each : (ℕ → Bool) → List ℕ → Type 0
Each p bytes = AllByRecursion (λ b. p b ≡ true) bytes

-- there is a first byte, and it passes
abbrev pub Starts : (ℕ → Bool) → List ℕ → Type 0
Starts p [] = ⊥
Starts p (b ∷ bytes) = p b ≡ true

-- the first byte, if there is one, doesn't pass
abbrev pub Stops : (ℕ → Bool) → List ℕ → Type 0
Stops p [] = ⊤
Stops p (b ∷ bytes) = p b ≡ false
