-- Numbers and tests of them.
use Rattle.std.proofs.Common.{◌≡◌, ℕ, suc, ◌+◌, arith, false, nat_eq, true, rules, true≢false, sym, ◌%◌, ◌^◌, ◌<◌}
use Rattle.std.proofs.lemmas.Bool.Decides.{nat_tests}
use Rattle.std.specs.List.{list_all}
use Rattle.std.proofs.lemmas.Str.Parse.{IsNumeralModel, numerals_by_fold}
use Rattle.cg_base.specs.Bytes.{digit, white}
use Rattle.cg_base.specs.Numbers.{number_from}
use Rattle.std.proofs.Math.Pow.{mod-mod-pow}
use Rattle.cg_base.specs.declared.kind.Word.{Word}
use Rattle.cg_base.specs.declared.kind.Word.TheVariants.{U8, U16, U32, U64}
use Rattle.cg_base.specs.Words.{bits}

pub one_more : (m : ℕ) → suc m ≡ m + 1
one_more m = omega arith

pub is_equal : (x k : ℕ) → x ≡ k → nat_eq x k ≡ true
is_equal x k e = grind (arith, nat_tests)

pub is_other : (x k : ℕ) → (x ≡ k → ⊥) → nat_eq x k ≡ false
is_other x k e = grind (arith, nat_tests)

pub own : IsNumeralModel (λ ds. list_all digit ds ≡ true) (number_from 0)
own = numerals_by_fold _ (search rules) number_from (search rules)

pub no_steps : {X : Type 0} → false ≡ true → X
no_steps e = absurd (true≢false (sym e))

pub narrowed : (w : Word) (n : ℕ) → n % 2 ^ 64 % 2 ^ bits w ≡ n % 2 ^ bits w
narrowed U8 n = mod-mod-pow n 56 8
narrowed U16 n = mod-mod-pow n 48 16
narrowed U32 n = mod-mod-pow n 32 32
narrowed U64 n = mod-mod-pow n 0 64

pub digit_dark : (b : ℕ) → digit b ≡ true → white b ≡ false
digit_dark b h = grind (arith, nat_tests)

pub above_none : (w : Word) → 0 < 2 ^ bits w
above_none U8 = omega arith
above_none U16 = omega arith
above_none U32 = omega arith
above_none U64 = omega arith

pub eqb_same : (c : ℕ) → nat_eq c c ≡ true
eqb_same c = grind arith

pub one_digit : (n : ℕ) → n < 10 → digit (48 + n) ≡ true
one_digit n h = grind (arith, nat_tests)
