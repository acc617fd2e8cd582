-- Tests of names, and cases of a test.
use Rattle.std.proofs.Common.{◌≡◌, Bool, true, false, refl}

-- both cases of a test, and the same with what it says
pub either_way : (P : Bool → Type 0) (b : Bool) → P true → P false → P b
either_way P true x y = x
either_way P false x y = y

pub by_cases : (P : Bool → Type 0) (b : Bool) → (b ≡ true → P true) → (b ≡ false → P false) → P b
by_cases P true f g = f refl
by_cases P false f g = g refl
