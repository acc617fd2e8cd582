-- Two outcomes that are equal and whose value fits a type: kept where a value is given, where two evaluations follow each other, where a cost is
-- paid, and by turns.
use Rattle.std.proofs.Common.{◌≡◌, ℕ, zero, suc, ◌-◌, ◌<◌, cond, IsTrue, Option, List, [], ◌∷◌, nat_lt, refl, ap, ◌∙◌}
use Rattle.std.specs.Prelude.{if◌then◌else◌}
use Rattle.cg_base.specs.declared.fun.Lib.{Lib}
use Rattle.cg_base.specs.Types.{Tau}
use Rattle.cg_eval_def.specs.Evaluation.{Outcome, spent, stuck, gives, bind, pay, pay_for, turns}
use Rattle.cg_eval_operations.specs.Iterators.{asked, carried, changed, ended, stops}
use Rattle.cg_value.specs.Fits.{World, fits}
use Rattle.cg_value.specs.Values.{Val}
use Rattle.cg_mono_laws.specs.Laws.{IsFitting}
use Rattle.cg_inst.proofs.Names.{by_cases, either_way}
use Rattle.cg_eval_laws.proofs.Turns.{Each, Over, TurnsKeep}

-- what the copies give is what the source gives, and that fits
pub record AreAlike (world : World) (t : Tau) (source copies : Outcome) : Type 0 where
  pub same : copies ≡ source
  pub fits : IsFitting world t source

module _ (world : World) where
  -- a value that fits a type, and two outcomes that are alike at it
  abbrev F : Tau → Val → Type 0
  F t v = IsTrue (fits world t v)

  abbrev A : Tau → Outcome → Outcome → Type 0
  A t o p = AreAlike world t o p

  -- outcomes that are one, by their forms
  pub spent_alike : (t : Tau) → A t spent spent
  spent_alike t = record { same = refl; fits = tt }

  pub stuck_alike : (t : Tau) → A t stuck stuck
  stuck_alike t = record { same = refl; fits = tt }

  pub gives_alike : (t : Tau) (v : Val) (left : ℕ) → F t v → A t (gives v left) (gives v left)
  gives_alike t v left f = record { same = refl; fits = f }

  -- the copies give another value that is the same
  pub gives_same : (t : Tau) (v w : Val) (left : ℕ) → w ≡ v → F t v → A t (gives v left) (gives w left)
  gives_same t v w left e f = record { same = ap (λ v. gives v left) e; fits = f }

  -- an outcome, and then the rest
  pub bind_alike : (t u : Tau) (o p : Outcome) (f g : Val → ℕ → Outcome) → A t o p → ((v : Val) (left : ℕ) → F t v → A u (f v left) (g v left)) → A u (bind o f) (bind p g)
  bind_alike t u spent p f g a h = record { same = ap (λ p. bind p g) a.same; fits = tt }
  bind_alike t u stuck p f g a h = record { same = ap (λ p. bind p g) a.same; fits = tt }
  bind_alike t u (gives v left) p f g a h = let r = h v left a.fits in record { same = ap (λ p. bind p g) a.same ∙ r.same; fits = r.fits }

  -- a cost of 1, and then the rest
  pub pay_alike : (t : Tau) (left : ℕ) (f g : ℕ → Outcome) → ((rest : ℕ) → A t (f rest) (g rest)) → A t (pay left f) (pay left g)
  pay_alike t zero f g h = spent_alike t
  pay_alike t (suc left) f g h = h left

  -- a cost, and then a value
  pub cost_alike : (t : Tau) (cost left : ℕ) (v : Val) → F t v → A t (pay_for cost left (λ rest. gives v rest)) (pay_for cost left (λ rest. gives v rest))
  cost_alike t cost left v f =
      either_way (λ b. A t (cond b spent (gives v (left - cost))) (cond b spent (gives v (left - cost)))) (nat_lt left cost) (spent_alike t) (gives_alike t v (left - cost) f)

  -- the turns of an iterator, each of which is alike
  pub turns_alike : (f g : ℕ → Val → Val → ℕ → Outcome) (lib : Lib) (seen : Val) (limit : ℕ) (over : Option Tau) (takes result carry whole : Tau)
      → TurnsKeep world lib seen limit over takes result carry whole → ((i : ℕ) (a s : Val) (left : ℕ) → F takes (asked lib seen i a s) → A result (f i a s left) (g i a s left))
      → (is : List ℕ) → Each (λ i. i < limit) is → (a s : Val) (left : ℕ) → Over world over a → F carry s → A whole (turns f lib is a s left) (turns g lib is a s left)
  unfolding turns
  turns_alike f g lib seen limit over takes result carry whole t h [] e a s left o q = gives_alike whole (ended lib a s) left (t.on_end a s o q)
  turns_alike f g lib seen limit over takes result carry whole t h (i ∷ is) e a s left o q =
      pay_alike whole left _ _ (λ paid. bind_alike result whole (f i a s paid) (g i a s paid) _ _ (h i a s paid (t.on_ask i a s e.0 o q)) (λ v rest r.
      by_cases (λ b. A whole (if b then gives v rest else turns f lib is (changed lib i a v) (carried lib v) rest) (if b then gives v rest else turns g lib is (changed lib i a v) (carried lib v) rest))
      (stops lib v)
      (λ k. gives_alike whole v rest (t.on_stop v r k))
      (λ k. turns_alike f g lib seen limit over takes result carry whole t h is e.1 (changed lib i a v) (carried lib v) rest (t.on_more i a v o r) (t.on_carry v r))))
