-- Names of functions are apart, and none is a variable of a body or a function of the library.
use Rattle.std.proofs.Common.{◌≡◌, ℕ, ◌^◌, ◌<◌, false, codes, decimal, map, None, refl, sym, ap, ◌∙◌, subst, arith, drop}
use Rattle.std.specs.Str.Parse.{AllDigits, digits_value}
use Rattle.std.proofs.lemmas.Fmt.{decimal_is_IsNumeral_wide}
use Rattle.std.proofs.lemmas.Str.Parse.{digit_from_value}
use Rattle.std.specs.Str.{bytes_eq}
use Rattle.cg_base.proofs.Sequences.{same_unless}
use Rattle.cg_resolve_def.specs.Declared.{is_among, library, looked_up}
use Rattle.cg_gen.specs.Generated.{name}

decimal_apart : (i j : ℕ) → i < 10 ^ 64 → j < 10 ^ 64 → decimal i ≡ decimal j → i ≡ j
decimal_apart i j small little e = sym (decimal_is_IsNumeral_wide i small).1 ∙ ap (digits_value 10) e ∙ (decimal_is_IsNumeral_wide j little).1

decimal_same : (i j : ℕ) → name i ≡ name j → decimal i ≡ decimal j
unfolding name
decimal_same i j e = ap (drop 1) e

-- of two numbers
pub apart : (i j : ℕ) → i < 10 ^ 64 → j < 10 ^ 64 → (i ≡ j → ⊥) → bytes_eq (name i) (name j) ≡ false
apart i j small little differ = same_unless (name i) (name j) (λ e. differ (decimal_apart i j small little (decimal_same i j e)))

-- none is a variable
pub is_no_c : (i : ℕ) → bytes_eq (name i) (codes "c") ≡ false
unfolding name
is_no_c i = refl

-- digits are no letters
no_free : (i : ℕ) → i < 10 ^ 64 → bytes_eq (decimal i) (codes "ree") ≡ false
no_free i small = same_unless (decimal i) (codes "ree") (λ e. omega (arith, digit_from_value 114 (subst (AllDigits 10) e (decimal_is_IsNumeral_wide i small).0.1).0))

-- none is a function of the library
pub is_no_library : (i : ℕ) → i < 10 ^ 64 → looked_up library (name i) ≡ None
unfolding name
is_no_library i small = rw (no_free i small) refl

pub is_no_other : (i : ℕ) → i < 10 ^ 64 → is_among (map (λ line. line.0) library) (name i) ≡ false
unfolding name
is_no_other i small = rw (no_free i small) refl
