-- What an iterator does in its turns.
use Rattle.std.proofs.Common.{◌≡◌, ℕ, zero, suc, ◌+◌, ◌<◌, ◌≤◌, if◌then◌else◌, [], ◌∷◌, nat_lt, nat_eq, refl, sym, ap, ◌∙◌, arith}
use Rattle.std.proofs.lemmas.Bool.Decides.{nat_tests}
use Rattle.std.proofs.lemmas.Bool.{lt-ltb, le-ltb}
use Rattle.cg_value.proofs.FormSteps.{field_without}
use Rattle.cg_value.specs.declared.value.Value.{the_lemmas}
use Rattle.cg_value.specs.Forms.{field, without}
use Rattle.cg_value.specs.Values.{Val}
use Rattle.cg_eval_operations.specs.Iterators.{counted, indices_from}

counted_end : (n i to step : ℕ) → to ≤ i → counted n i to step ≡ []
unfolding counted
counted_end zero i to step h = refl
counted_end (suc n) i to step h = ap (λ b. if b then i ∷ counted n (i + step) to step else []) (le-ltb i to h)

counted_one : (n i to step : ℕ) → i < to → counted (suc n) i to step ≡ i ∷ counted n (i + step) to step
unfolding counted
counted_one n i to step h = ap (λ b. if b then i ∷ counted n (i + step) to step else []) (lt-ltb i to h)

-- any number of them from those that are left on gives the same
counted_same : (n m i to step : ℕ) → 0 < step → to ≤ i + n → to ≤ i + m → counted n i to step ≡ counted m i to step
unfolding counted
counted_same zero m i to step p h w = counted_end zero i to step (omega arith) ∙ sym (counted_end m i to step (omega arith))
counted_same (suc n) zero i to step p h w = counted_end (suc n) i to step (omega arith) ∙ sym (counted_end zero i to step (omega arith))
counted_same (suc n) (suc m) i to step p h w =
    ap (λ l. if nat_lt i to then i ∷ l else []) (counted_same n m (i + step) to step p (omega arith) (omega arith))

first_one : (n i step : ℕ) → 0 < step → i < n → counted n i n step ≡ i ∷ counted n (i + step) n step
first_one zero i step p h = absurd (omega arith)
first_one (suc n) i step p h =
    counted_one n i (suc n) step h ∙ ap (λ l. i ∷ l) (counted_same n (suc n) (i + step) (suc n) step p (omega arith) (omega arith))

pub index_none : (i to step : ℕ) → step ≡ 0 → indices_from i to step ≡ []
unfolding indices_from
index_none i to step h = ap (λ n. if nat_eq n 0 then [] else counted to i to n) h

pub index_end : (i to step : ℕ) → to ≤ i → indices_from i to step ≡ []
unfolding indices_from
index_end i to step h = let e = counted_end to i to step h in grind (arith, nat_tests)

pub index_more : (i to step : ℕ) → 0 < step → i < to → indices_from i to step ≡ i ∷ indices_from (i + step) to step
unfolding indices_from
index_more i to step p h = let e = first_one to i step p h in grind (arith, nat_tests)

-- what is taken out of an argument leaves the rest
pub after_one : (x : Val) → field (without x 0) 4 ≡ field x 4
after_one x = field_without x 0 4 (λ e. omega (arith, e))

pub after_two : (x : Val) → field (without (without x 0) 4) 3 ≡ field x 3
after_two x = field_without (without x 0) 4 3 (λ e. omega (arith, e)) ∙ field_without x 0 3 (λ e. omega (arith, e))

pub after_three : (x : Val) → field (without (without (without x 0) 4) 3) 5 ≡ field x 5
after_three x = field_without (without (without x 0) 4) 3 5 (λ e. omega (arith, e)) ∙ field_without (without x 0) 4 5 (λ e. omega (arith, e)) ∙ field_without x 0 5 (λ e. omega (arith, e))

pub ruleset turn_steps = (index_none, index_end, index_more, after_one, after_two, after_three, the_lemmas)
