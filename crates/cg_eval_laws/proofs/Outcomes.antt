-- Sound outcomes, one after another and where a cost is paid.
use Rattle.std.proofs.Common.{◌≡◌, ℕ, zero, suc, ◌-◌, cond, IsTrue, Option, Some, None, refl, ap, nat_lt, subst as at}
use Rattle.cg_base.specs.Types.{Tau}
use Rattle.cg_eval_def.specs.Evaluation.{Outcome, spent, stuck, gives, bind, cost_of, Table, pay, pay_for}
use Rattle.cg_value.specs.Fits.{World, fits}
use Rattle.cg_value.specs.Values.{Val, gone}
use Rattle.cg_eval_laws.specs.Laws.{IsSound}
use Rattle.cg_inst.proofs.Names.{either_way}

-- the value of a result
abbrev value_in : Option (Val × ℕ) → Val
value_in None = gone
value_in (Some r) = r.0

module _ (world : World) where
  pub bind_sound : (t u : Tau) (o : Outcome) (rest : Val → ℕ → Outcome) → IsSound world t o
      → ((v : Val) (left : ℕ) → IsTrue (fits world t v) → IsSound world u (rest v left)) → IsSound world u (bind o rest)
  bind_sound t u spent rest s h = tt
  bind_sound t u stuck rest s h = absurd s
  bind_sound t u (gives v left) rest s h = h v left s

  pub pay_sound : (u : Tau) (left : ℕ) (rest : ℕ → Outcome) → ((k : ℕ) → IsSound world u (rest k)) → IsSound world u (pay left rest)
  pay_sound u zero rest h = tt
  pay_sound u (suc left) rest h = h left

  pub cost_sound : (u : Tau) (cost left : ℕ) (v : Val) → IsTrue (fits world u v) → IsSound world u (pay_for cost left (λ rest. gives v rest))
  cost_sound u cost left v h = either_way (λ b. IsSound world u (cond b spent (gives v (left - cost)))) (nat_lt left cost) (tt {0}) h

  -- what is sound isn't stuck, and what it gives fits
  pub sound_not_stuck : (t : Tau) (o : Outcome) → IsSound world t o → o ≡ stuck → ⊥
  sound_not_stuck t spent s e = cc
  sound_not_stuck t stuck s e = s
  sound_not_stuck t (gives v left) s e = cc

  pub sound_value : (table : Table) (n k : ℕ) (t : Tau) (o : Outcome) (v : Val) → IsSound world t o → cost_of table n o ≡ Some (v, k) → IsTrue (fits world t v)
  sound_value table n k t spent v s e = absurd (cc)
  sound_value table n k t stuck v s e = absurd (cc)
  sound_value table n k t (gives w left) v s e = at (λ v. IsTrue (fits world t v)) (ap value_in e) s

  -- so without a value the budget is spent
  pub sound_none : (table : Table) (n : ℕ) (t : Tau) (o : Outcome) → IsSound world t o → cost_of table n o ≡ None → o ≡ spent
  sound_none table n t spent s e = refl
  sound_none table n t stuck s e = absurd s
  sound_none table n t (gives v left) s e = absurd (cc)
