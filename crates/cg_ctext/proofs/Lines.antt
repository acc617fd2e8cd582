-- Lines, and the spaces before them.
use Rattle.std.proofs.Common.{◌≡◌, ℕ, zero, suc, ◌+◌, ◌<◌, ◌≤◌, List, ◌++◌, length, codes, refl, ap, ◌∙◌, add-one, append_assoc, arith}
use Rattle.cg_ctext.specs.Printed.{deeper, spaces, line_at}

-- pieces behind each other
pub behind : (text first second a b c : List ℕ) → first ≡ text ++ a → second ≡ first ++ b → second ++ c ≡ text ++ (a ++ b ++ c)
behind text first second a b c e f = rw (f, e) (simp append_assoc)

-- one level more
spaces_suc : (level : ℕ) → spaces (suc level) ≡ spaces level ++ codes "    "
spaces_suc zero = refl
spaces_suc (suc level) = ap (λ z. codes "    " ++ z) (spaces_suc level)

pub spaces_next : (level : ℕ) → spaces (level + 1) ≡ spaces level ++ codes "    "
spaces_next level = ap spaces (add-one level) ∙ spaces_suc level

pub line_is : (level : ℕ) → line_at level ≡ codes "\n" ++ spaces level
unfolding line_at
line_is level = refl

-- a line has a byte at least
pub line_length : (level : ℕ) → 1 ≤ length (line_at level)
unfolding line_at
line_length level = omega arith

pub deeper_small : (level : ℕ) → level < 16 → level + 1 ≡ deeper level
unfolding deeper
deeper_small level h = omega (arith, h)

pub deeper_large : (level : ℕ) → 16 ≤ level → 16 ≡ deeper level
unfolding deeper
deeper_large level h = omega (arith, h)

pub ruleset line_steps = (spaces_next, line_is, deeper_small, deeper_large)
