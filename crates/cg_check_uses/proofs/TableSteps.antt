-- Tables of uses as lists that the code makes.
use Rattle.std.proofs.Common.{◌≡◌, ℕ, zero, suc, ◌≤◌, Bool, true, None, List, [], ◌∷◌, ◌++◌, length, refl, sym, ap, ◌∙◌, arith, nat_eq}
use Rattle.std.specs.Prelude.{slice_set, replicate}
use Rattle.cg_check_uses.specs.Uses.{table, no_use, no_uses, var_uses, use_of, last, front}
use Rattle.cg_check_uses.specs.declared.entry.Use.{Use}
use Rattle.cg_check_uses.proofs.Numbers.{next_numbers}
use Rattle.cg_base.proofs.Counts.{is_other as other_number}

pub none_replicate : (n : ℕ) → replicate n no_use ≡ no_uses n
none_replicate zero = refl
none_replicate (suc n) = ap (λ us. no_use ∷ us) (none_replicate n)

pub table_is : {A : Type 0} (n : ℕ) (f g : ℕ → A) → ((i : ℕ) → f i ≡ g i) → table n f ≡ table n g
table_is zero f g h = refl
table_is (suc n) f g h = cc (h 0, table_is n (λ i. f (suc i)) (λ i. g (suc i)) (λ i. h (suc i)))

abbrev once : Bool → Use
once b = use_of b b None

-- one of n
pub one_set : (n i : ℕ) → slice_set (no_uses n) i (use_of true true None) ≡ var_uses n i
one_set zero i = refl
one_set (suc n) zero =
    ap (λ us. use_of true true None ∷ us)
    (table_is n (λ i. no_use) (λ i. once (nat_eq (suc i) 0)) (λ i. ap once (sym (other_number (suc i) 0 (λ e. (absurd (omega (arith, e))))))))
one_set (suc n) (suc i) =
    cc (
      ap once (sym (other_number 0 (suc i) (λ e. absurd (omega (arith, e))))),
      one_set n i ∙ table_is n (λ j. once (nat_eq j i)) (λ j. once (nat_eq (suc j) (suc i))) (λ j. ap once (next_numbers j i)),
    )

-- an item past the end isn't put
pub set_past : {A : Type 0} (xs : List A) (i : ℕ) (x : A) → length xs ≤ i → slice_set xs i x ≡ xs
set_past [] i x h = refl
set_past (y ∷ xs) zero x h = absurd (omega (arith, h))
set_past (y ∷ xs) (suc i) x h = ap (λ zs. y ∷ zs) (set_past xs i x (omega (arith, h)))

-- the last use, and those before it
pub last_of : (us : List Use) (u : Use) → last (us ++ u ∷ []) ≡ u
last_of [] u = refl
last_of (v ∷ []) u = refl
last_of (v ∷ w ∷ us) u = last_of (w ∷ us) u

pub front_of : (us : List Use) (u : Use) → front (us ++ u ∷ []) ≡ us
front_of [] u = refl
front_of (v ∷ []) u = refl
front_of (v ∷ w ∷ us) u = ap (λ zs. v ∷ zs) (front_of (w ∷ us) u)

pub ruleset table_steps = (none_replicate, one_set, set_past, last_of, front_of)
