-- Digits with no zero in front spell each number once.
use Rattle.std.proofs.Common.{◌≡◌, ℕ, zero, suc, ◌+◌, ◌-◌, ◌*◌, ◌<◌, ◌≤◌, Bool, true, false, cond, ◌⊎◌, inl, inr, List, [], ◌∷◌, ◌++◌, length, take, drop, refl, sym, ap, ◌∙◌, arith, one-add}
use Rattle.std.proofs.lemmas.Bool.{ltb-false, ltb-true}
use Rattle.std.proofs.lemmas.Bool.Decides.{nat_tests}
use Rattle.std.proofs.lemmas.List.{length-drop, take-append-drop}
use Rattle.std.specs.List.{prefix_len}
use Rattle.std.specs.Prelude.{nat_lt}
use Rattle.cg_base.specs.Bytes.{digit, Each, Stops}
use Rattle.cg_base.specs.Numbers.{number_from}
use Rattle.cg_base.proofs.Spans.{front_passes}
use Rattle.cg_base.proofs.Truths.{either_bool}
use Rattle.cg_heaptext_index.specs.Addresses.{is_zero, significant}

-- ---- digits

at_least : (b : ℕ) → digit b ≡ true → 48 ≤ b
at_least b h = grind (arith, nat_tests)

at_most : (b : ℕ) → digit b ≡ true → b ≤ 57
at_most b h = grind (arith, nat_tests)

not_zero : (b : ℕ) → digit b ≡ true → is_zero b ≡ false → 48 < b
not_zero b h z = grind (arith, nat_tests)

zero_is : (b : ℕ) → is_zero b ≡ true → b ≡ 48
zero_is b z = grind (arith, nat_tests)

-- what passes, without some bytes in front
pub each_drop : (p : ℕ → Bool) (n : ℕ) (xs : List ℕ) → Each p xs → Each p (drop n xs)
each_drop p zero xs h = h
each_drop p (suc n) [] h = tt
each_drop p (suc n) (x ∷ xs) h = each_drop p n xs h.1

-- ---- numbers

-- further digits make no smaller number
no_smaller : (n : ℕ) (xs : List ℕ) → n ≤ number_from n xs
no_smaller n [] = omega arith
no_smaller n (b ∷ xs) = omega (arith, no_smaller (n * 10 + (b - 48)) xs)

-- digits, and others behind them
spells_both : (n : ℕ) (xs ys : List ℕ) → number_from n (xs ++ ys) ≡ number_from (number_from n xs) ys
spells_both n [] ys = refl
spells_both n (b ∷ xs) ys = spells_both (n * 10 + (b - 48)) xs ys

-- the last digit, and the number before it
last_is : (n m b c : ℕ) → digit b ≡ true → digit c ≡ true → n * 10 + (b - 48) ≡ m * 10 + (c - 48) → (n ≡ m) × (b ≡ c)
last_is n m b c h k e =
    let b0 = at_least b h in let b9 = at_most b h in let c0 = at_least c k in let c9 = at_most c k in
    (omega (arith, b0, b9, c0, c9, e), omega (arith, b0, b9, c0, c9, e))

-- as many digits spell one number in one way
one_way : (n m : ℕ) (xs ys : List ℕ) → length xs ≡ length ys → Each digit xs → Each digit ys → number_from n xs ≡ number_from m ys → (n ≡ m) × (xs ≡ ys)
one_way n m [] [] l h k e = (e, refl)
one_way n m [] (c ∷ ys) l h k e = absurd (omega arith)
one_way n m (b ∷ xs) [] l h k e = absurd (omega arith)
one_way n m (b ∷ xs) (c ∷ ys) l h k e =
    let r = one_way (n * 10 + (b - 48)) (m * 10 + (c - 48)) xs ys (omega arith) h.1 k.1 e in
    let d = last_is n m b c h.0 k.0 r.0 in
    (d.0, λ i. d.1 i ∷ r.1 i)

-- so digits without a zero in front spell no number that fewer digits spell
no_more : (k : ℕ) (xs ys : List ℕ) → Each digit xs → Each digit ys → Stops is_zero ys → length xs ≡ length (drop k ys) → number_from 0 xs ≡ number_from 0 ys → xs ≡ ys
no_more zero xs ys h j s l e = (one_way 0 0 xs ys l h j e).1
no_more (suc k) xs [] h j s l e = (one_way 0 0 xs [] l h j e).1
no_more (suc k) xs (y ∷ ys) h j s l e =
    let n = 0 * 10 + (y - 48) in
    let parts : number_from n ys ≡ number_from (number_from n (take k ys)) (drop k ys) = ap (number_from n) (sym (take-append-drop k ys)) ∙ spells_both n (take k ys) (drop k ys) in
    let o = one_way 0 (number_from n (take k ys)) xs (drop k ys) l h (each_drop digit k ys j.1) (e ∙ parts) in
    absurd (omega (arith, o.0, no_smaller n (take k ys), not_zero y j.0 s))

-- of two texts the shorter one is none
shorter : (xs ys : List ℕ) → length xs ≤ length ys → Each digit xs → Each digit ys → Stops is_zero ys → number_from 0 xs ≡ number_from 0 ys → xs ≡ ys
shorter xs ys w h k s e = no_more (length ys - length xs) xs ys h k s (omega (arith, w, length-drop (length ys - length xs) ys)) e

one_text : (xs ys : List ℕ) → Each digit xs → Each digit ys → Stops is_zero xs → Stops is_zero ys → number_from 0 xs ≡ number_from 0 ys → xs ≡ ys
one_text xs ys h k s t e = by_length (either_bool (nat_lt (length xs) (length ys)))
  where
    by_length : (nat_lt (length xs) (length ys) ≡ true) ⊎ (nat_lt (length xs) (length ys) ≡ false) → xs ≡ ys
    by_length (inl b) = let l = ltb-true (length xs) (length ys) b in shorter xs ys (omega (arith, l)) h k t e
    by_length (inr b) = sym (shorter ys xs (ltb-false (length xs) (length ys) b) k h s (sym e))

-- ---- zeros in front

-- they add nothing
pub spells_same : (xs : List ℕ) → number_from 0 (significant xs) ≡ number_from 0 xs
spells_same [] = refl
spells_same (x ∷ xs) =
    elim (is_zero x) as (λ b. is_zero x ≡ b → number_from 0 (drop (cond b (1 + prefix_len is_zero xs) 0) (x ∷ xs)) ≡ number_from 0 (x ∷ xs)) [
      | true ↦ λ e. rw one-add (spells_same xs ∙ ap (λ n. number_from n xs) (omega (arith, zero_is x e)))
      | false ↦ λ e. refl
    ] refl

-- digits that spell one number are one text without them
pub one_address : (xs ys : List ℕ) → Each digit xs → Each digit ys → number_from 0 xs ≡ number_from 0 ys → significant xs ≡ significant ys
one_address xs ys h k e =
    one_text (significant xs) (significant ys) (each_drop digit (prefix_len is_zero xs) xs h) (each_drop digit (prefix_len is_zero ys) ys k)
    (front_passes is_zero xs).1 (front_passes is_zero ys).1 (spells_same xs ∙ e ∙ sym (spells_same ys))

-- and one text spells one number
pub one_number : (xs ys : List ℕ) → significant xs ≡ significant ys → number_from 0 xs ≡ number_from 0 ys
one_number xs ys e = sym (spells_same xs) ∙ ap (number_from 0) e ∙ spells_same ys
