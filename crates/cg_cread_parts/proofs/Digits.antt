-- Which digits a number is written with.
use Rattle.std.proofs.Common.{◌≡◌, ℕ, ◌<◌, ◌^◌, zero, suc, List, [], ◌∷◌, length, get_or, true, false, Bool, cond, Some, None, refl, sym, ap, ◌∙◌, arith, decimal, eq-eqb}
use Rattle.std.specs.Prelude.{◌&&◌, ◌==◌, not, codes}
use Rattle.std.specs.List.{list_all}
use Rattle.std.proofs.lemmas.Bool.Decides.{nat_tests}
use Rattle.std.proofs.lemmas.Fmt.{digits_decimal, digits_value-decimal, decimal-digits_value, first_decimal, decimal_digit}
use Rattle.cg_base.specs.Bytes.{digit}
use Rattle.cg_base.specs.Numbers.{number_from, word64, literal_of}
use Rattle.cg_cread_parts.specs.Symbols.{leads, is_decimal, number_of}
use Rattle.cg_base.proofs.Counts.{own}
use Rattle.cg_base.proofs.Options.{word_is, word_of}

both : (a b : Bool) → (a && not b) ≡ true → (a ≡ true) × (b ≡ false)
both true true e = cc
both true false e = (refl, refl)
both false b e = cc

-- a front that isn't refused
not_leading : (ds : List ℕ) → leads ds ≡ false → (0 < length ds) × (get_or ds 0 0 ≡ 48 → length ds ≡ 1)
not_leading [] e = cc
not_leading (b ∷ []) e = (omega arith, λ z. refl)
not_leading (b ∷ c ∷ ds) e = (omega arith, λ z. let t : (b == 48) ≡ true = eq-eqb b 48 z in cc)

-- a first digit that isn't a zero
not_zero : (ds : List ℕ) → 48 < get_or ds 0 0 → leads ds ≡ false
not_zero [] h = absurd (omega arith)
not_zero (b ∷ []) h = refl
not_zero (b ∷ c ∷ ds) h = differs b h
  where
    differs : (x : ℕ) → 48 < x → (x == 48) ≡ false
    differs x h = grind (arith, nat_tests)

-- what is taken for a number is written as one
pub number_is : (ds : List ℕ) (n : ℕ) → number_of ds ≡ Some n → (n < 2 ^ 64) × (ds ≡ decimal n)
number_is ds n e = go (is_decimal ds) refl e
  where
    go : (b : Bool) → is_decimal ds ≡ b → cond b (literal_of ds) None ≡ Some n → (n < 2 ^ 64) × (ds ≡ decimal n)
    go true q f =
        let w = word_is (number_from 0 ds) n f in
        let p = both (list_all digit ds) (leads ds) q in
        let v = not_leading ds p.1 in
        let small : number_from 0 ds < 2 ^ 64 = omega (arith, w.0, w.1) in
        (w.1, sym (decimal-digits_value own ds p.0 v.0 v.1 small) ∙ ap decimal w.0)
    go false q f = cc

-- no number is written with a zero in front
no_leads : (n : ℕ) → n < 2 ^ 64 → leads (decimal n) ≡ false
no_leads zero h = ap leads (decimal_digit 0 (omega arith))
no_leads (suc n) h = not_zero (decimal (suc n)) (first_decimal (suc n) (omega arith) h)

-- what a number is written as is taken for it
pub number_back : (n : ℕ) → n < 2 ^ 64 → number_of (decimal n) ≡ Some n
number_back n h =
    ap (λ b. cond (b && not (leads (decimal n))) (literal_of (decimal n)) None) (digits_decimal own n h)
    ∙ ap (λ b. cond (not b) (literal_of (decimal n)) None) (no_leads n h)
    ∙ ap word64 (digits_value-decimal own n h)
    ∙ word_of n h

-- how zero is written
pub zero_text : decimal 0 ≡ codes "0"
zero_text = decimal_digit 0 (omega arith)
