-- Optional values.
use Rattle.std.proofs.Common.{◌≡◌, ℕ, ◌<◌, ◌^◌, Some, arith, suc, Option, None, option_map, refl}
use Rattle.std.proofs.lemmas.Bool.Decides.{nat_tests}
use Rattle.cg_base.specs.Numbers.{word64}

pub word_is : (n m : ℕ) → word64 n ≡ Some m → (n ≡ m) × (m < 2 ^ 64)
word_is n m e = grind (arith, nat_tests)

pub word_of : (n : ℕ) → n < 2 ^ 64 → word64 n ≡ Some n
word_of n h = grind (arith, nat_tests)

pub some_is : {A : Type 0} (x y : A) → Some x ≡ Some y → x ≡ y
some_is x y e = cc

pub later : (o : Option ℕ) (k : ℕ) → option_map suc o ≡ Some k → (j : ℕ) × (o ≡ Some j) × (suc j ≡ k)
later None k e = absurd (cc)
later (Some j) k e = (j, refl, cc)
