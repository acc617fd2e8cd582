-- The names of generated functions, and their numbers, as texts of tokens.
use Rattle.std.proofs.Common.{◌≡◌, ℕ, ◌+◌, ◌-◌, ◌*◌, ◌<◌, ◌≤◌, ◌^◌, ◌%◌, Bool, true, false, List, [], ◌∷◌, ◌++◌, length, decimal, Some, refl, sym, ap, ◌∙◌, arith}
use Rattle.std.specs.Prelude.{◌==◌}
use Rattle.std.proofs.lemmas.Bool.Decides.{nat_tests}
use Rattle.std.proofs.lemmas.Fmt.{decimal_by_steps, decimal_nonempty, length-decimal-le, digits_value-decimal}
use Rattle.cg_base.specs.Bytes.{digit, Each, Starts, Stops}
use Rattle.cg_base.specs.Numbers as base
use Rattle.cg_base.specs.Numbers.{word64}
use Rattle.cg_base.proofs.Counts.{own, one_digit}
use Rattle.cg_base.proofs.Spans.{spans}
use Rattle.cg_lexer.specs.declared.token.TokenKind.TheVariants.{Lower, Number}
use Rattle.cg_lexer.specs.Bytes.{part_of_name, inline, digit_of, digit_value}
use Rattle.cg_lexer.specs.Numbers.{number_from, value_of, IsNumber}
use Rattle.cg_lexer.specs.Front.{piece_length, letter, front_length, number_base, number_length, length_in}
use Rattle.cg_gen.specs.Generated.{name}
use Rattle.cg_gen_text_laws.proofs.Fronts.{Splits, splits, longest}

last_digit : (n : ℕ) → n % 10 < 10
last_digit n = grind arith

each_behind : (p : ℕ → Bool) (xs : List ℕ) (b : ℕ) → Each p xs → p b ≡ true → Each p (xs ++ b ∷ [])
each_behind p [] b all e = (e, tt)
each_behind p (x ∷ xs) b all e = (all.0, each_behind p xs b all.1 e)

-- decimal digits are digits
digits : (n : ℕ) → n < 2 ^ 64 → Each digit (decimal n)
digits = decimal_by_steps (λ m ds. Each digit ds) (λ m small. (one_digit m small, tt)) (λ m ds large ih. each_behind digit ds (48 + m % 10) ih (one_digit (m % 10) (last_digit m)))

each_more : (p q : ℕ → Bool) → ((b : ℕ) → p b ≡ true → q b ≡ true) → (xs : List ℕ) → Each p xs → Each q xs
each_more p q h [] all = tt
each_more p q h (x ∷ xs) all = (h x all.0, each_more p q h xs all.1)

-- what a digit is, and what it isn't
in_name : (b : ℕ) → digit b ≡ true → part_of_name b ≡ true
in_name b h = grind (arith, nat_tests)

on_line : (b : ℕ) → digit b ≡ true → inline b ≡ true
on_line b h = grind (arith, nat_tests)

value_is : (b : ℕ) → digit b ≡ true → digit_value b ≡ b - 48
value_is b h = rw h refl

of_ten : (b : ℕ) → digit b ≡ true → digit_of 10 b ≡ true
of_ten b h = rw h (grind (arith, nat_tests))

no_letter : (b : ℕ) → digit b ≡ true → letter b ≡ false
no_letter b h = grind (arith, nat_tests)

-- it is none of these bytes
none_of : (b c : ℕ) → digit b ≡ true → digit c ≡ false → (b == c) ≡ false
none_of b c h k = grind (arith, nat_tests)

-- ---- names

pub name_length : (i : ℕ) → i < 10000 → length (name i) ≤ 5
unfolding name
name_length i h = omega (arith, length-decimal-le 4 i (omega arith) (omega arith) (omega arith))

pub name_inline : (i : ℕ) → i < 2 ^ 64 → Each inline (name i)
unfolding name
name_inline i h = (refl, each_more digit inline on_line (decimal i) (digits i h))

name_long : (ds rest : List ℕ) → Each digit ds → Stops part_of_name rest → front_length (102 ∷ (ds ++ rest)) ≡ length (102 ∷ ds)
name_long ds rest all stop = spans part_of_name (102 ∷ ds) rest (refl, each_more digit part_of_name in_name ds all) stop

-- a function's name is a name where no byte behind it goes on with it
pub name_splits : (i : ℕ) (rest : List ℕ) → i < 2 ^ 64 → Stops part_of_name rest → Splits Lower (name i) rest
unfolding name
name_splits i rest h stop = splits (102 ∷ decimal i) rest refl (name_long (decimal i) rest (digits i h) stop) (some (decimal i))
  where
    some : (ds : List ℕ) → (length (102 ∷ ds) == 0) ≡ false
    some ds = grind (arith, nat_tests)

-- ---- numbers

starts : (ds : List ℕ) → Each digit ds → 0 < length ds → Starts digit ds
starts [] all some = absurd (omega arith)
starts (d ∷ ds) all some = all.0

unmarked : (a b : ℕ) (more : List ℕ) → (b == 120) ≡ false → (b == 111) ≡ false → (b == 98) ≡ false → number_base (a ∷ b ∷ more) ≡ number_base []
unmarked a b [] h k l = refl
unmarked a b (c ∷ more) h k l = rw (h, k, l) refl

-- the base of digits with a brace behind them
base_is : (ds more : List ℕ) → Each digit ds → Starts digit ds → number_base (ds ++ 125 ∷ more) ≡ number_base []
base_is [] more all some = absurd some
base_is (d ∷ []) more all some = unmarked d 125 more refl refl refl
base_is (d ∷ e ∷ ds) more all some =
    unmarked d e (ds ++ 125 ∷ more) (none_of e 120 all.1.0 refl) (none_of e 111 all.1.0 refl) (none_of e 98 all.1.0 refl)

number_is : (ds more : List ℕ) → Each digit ds → Starts digit ds → number_length (ds ++ 125 ∷ more) ≡ length ds
number_is ds more all some =
    ap (λ b. length_in b (ds ++ 125 ∷ more)) (base_is ds more all some) ∙ omega (arith, spans (digit_of 10) ds (125 ∷ more) (each_more digit (digit_of 10) of_ten ds all) refl)

digits_long : (ds more : List ℕ) → Each digit ds → Starts digit ds → front_length (ds ++ 125 ∷ more) ≡ length ds
digits_long [] more all some = absurd some
digits_long (d ∷ ds) more all some = rw (none_of d 123 some refl, no_letter d some, some) (number_is (d ∷ ds) more all some)

digits_clear : (ds more : List ℕ) → Starts digit ds → piece_length (ds ++ 125 ∷ more) ≡ 0
digits_clear [] more some = absurd some
digits_clear (d ∷ ds) more some = rw (none_of d 32 some refl, none_of d 9 some refl, none_of d 10 some refl, none_of d 13 some refl, none_of d 45 some refl, none_of d 123 some refl) refl

same_number : (n : ℕ) (ds : List ℕ) → Each digit ds → number_from 10 n ds ≡ base.number_from n ds
same_number n [] all = refl
same_number n (d ∷ ds) all = rw (value_is d all.0) (same_number (n * 10 + (d - 48)) ds all.1)

fits_word : (n : ℕ) → n < 2 ^ 64 → Some n ≡ word64 n
fits_word n h = grind (arith, nat_tests)

value : (i : ℕ) → i < 2 ^ 64 → Some i ≡ value_of (number_base []) (decimal i)
value i h = fits_word i h ∙ ap word64 (sym (same_number 0 (decimal i) (digits i h) ∙ digits_value-decimal own i h))

is_number : (i : ℕ) → i < 2 ^ 64 → IsNumber (decimal i) (Some i)
is_number i h =
    let all = digits i h in
    let some = starts (decimal i) all (decimal_nonempty i h) in
    (number_base [], decimal i, refl, begins (decimal i) some, each_more digit (digit_of 10) of_ten (decimal i) all, value i h)
  where
    begins : (ds : List ℕ) → Starts digit ds → Starts (digit_of 10) ds
    begins [] some = absurd some
    begins (d ∷ ds) some = of_ten d some

-- a number's decimal text is a number where a brace stands behind it
pub number_splits : (i : ℕ) (more : List ℕ) → i < 2 ^ 64 → Splits (Number (Some i)) (decimal i) (125 ∷ more)
number_splits i more h =
    let all = digits i h in
    let some = starts (decimal i) all (decimal_nonempty i h) in
    (is_number i h, longest (decimal i) (125 ∷ more) (digits_clear (decimal i) more some) (digits_long (decimal i) more all some) (long (decimal i) (decimal_nonempty i h)))
  where
    long : (ds : List ℕ) → 0 < length ds → (length ds == 0) ≡ false
    long ds some = grind (arith, nat_tests)

pub number_inline : (i : ℕ) → i < 2 ^ 64 → Each inline (decimal i)
number_inline i h = each_more digit inline on_line (decimal i) (digits i h)

pub number_length_is : (i : ℕ) → i < 10000 → length (decimal i) ≤ 4
number_length_is i h = length-decimal-le 4 i (omega arith) (omega arith) (omega arith)
