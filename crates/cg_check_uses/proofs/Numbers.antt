-- Tests.
use Rattle.std.proofs.Common.{◌≡◌, ℕ, suc, Bool, true, false, ◌⊎◌, ⊎_elim, sym, ap, ◌∙◌, arith, nat_eq, eqb-true, eq-eqb}
use Rattle.cg_base.proofs.Truths.{either_bool as bool_is}
use Rattle.cg_base.proofs.Counts.{is_other as other_number}

pub apart : {X : Type 0} (b : Bool) → b ≡ true → b ≡ false → X
apart b h k = absurd (cc)

pub next_numbers : (a b : ℕ) → nat_eq a b ≡ nat_eq (suc a) (suc b)
next_numbers a b = ⊎_elim
    (λ t. t ∙ sym (eq-eqb (suc a) (suc b) (ap suc (eqb-true a b t))))
    (λ f. f ∙ sym (other_number (suc a) (suc b) (λ e. apart (nat_eq a b) (eq-eqb a b (omega arith)) f)))
    (bool_is (nat_eq a b))
