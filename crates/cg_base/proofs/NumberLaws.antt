-- Numbers, digit by digit.
use Rattle.std.proofs.Common.{◌≡◌, ℕ, ◌+◌, ◌-◌, ◌*◌, ◌^◌, ◌<◌, ◌≤◌, List, [], ◌∷◌, length, drop, get_or, None, ap, arith, add-one, drop-cons}
use Rattle.std.proofs.lemmas.Bool.Decides.{nat_tests}
use Rattle.cg_base.specs.Numbers.{number_from, word64, literal_of}

-- further digits make no smaller number
number_from-grows : (n : ℕ) (digits : List ℕ) → n ≤ number_from n digits
number_from-grows n [] = omega arith
number_from-grows n (b ∷ digits) = omega (arith, number_from-grows (n * 10 + (b - 48)) digits)

number_from-drop : (digits : List ℕ) (i n : ℕ) → i < length digits → number_from n (drop i digits) ≡ number_from (n * 10 + (get_or digits i 0 - 48)) (drop (i + 1) digits)
number_from-drop digits i n h = rw (add-one) (ap (number_from n) (drop-cons digits i 0 h))

pub no_word : (n : ℕ) → word64 n ≡ None → 2 ^ 64 ≤ n
no_word n e = grind (arith, nat_tests)

-- where a front is too large already, so is the whole
pub too_large : (digits : List ℕ) (i n : ℕ) → i < length digits → number_from n (drop i digits) ≡ number_from 0 digits → word64 (n * 10 + (get_or digits i 0 - 48)) ≡ None → None ≡ literal_of digits
too_large digits i n h is e =
    let large : 2 ^ 64 ≤ number_from 0 digits = omega (arith, is, no_word _ e, number_from-drop digits i n h, number_from-grows (n * 10 + (get_or digits i 0 - 48)) (drop (i + 1) digits)) in
    grind (arith, nat_tests)
