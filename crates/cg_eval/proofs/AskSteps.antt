-- Calls of abstract functions.
use Rattle.std.proofs.Common.{◌≡◌, ℕ, Bool, true, false, cond, Option, Some, refl, sym, ap, ◌∙◌}
use Rattle.cg_core.specs.Kernels.{Function}
use Rattle.cg_value.specs.Foreign.{Foreign}
use Rattle.cg_value.specs.Values.{Val}
use Rattle.cg_eval_def.specs.Evaluation.{Outcome, stuck, gives, bind, pay_for}
use Rattle.cg_eval_def.specs.Foreigns.{cost_at, is_taken, value_at}

-- what is not stuck was taken
was_taken : (b : Bool) (o : Outcome) (h : Val → ℕ → Outcome) → (bind (cond b o stuck) h ≡ stuck → ⊥) → bind o h ≡ bind (cond b o stuck) h
was_taken true o h f = refl
was_taken false o h f = absurd (f refl)

-- what a call of an abstract function comes to, after the rest
abbrev asked_of : Foreign → Option Function → Val → ℕ → (Val → ℕ → Outcome) → Outcome
asked_of x o v l h = bind (pay_for (cost_at x o v) l (λ left. gives (value_at x o v) left)) h

pub known_is : (x : Foreign) (o : Option Function) (f : Function) (v : Val) (l : ℕ) (h : Val → ℕ → Outcome) → o ≡ Some f
    → (bind (cond (is_taken x o v) (pay_for (cost_at x o v) l (λ left. gives (value_at x o v) left)) stuck) h ≡ stuck → ⊥)
    → bind (pay_for (cost_at x (Some f) v) l (λ left. gives (value_at x (Some f) v) left)) h
    ≡ bind (cond (is_taken x o v) (pay_for (cost_at x o v) l (λ left. gives (value_at x o v) left)) stuck) h
known_is x o f v l h e fine =
    ap (λ p. asked_of x p v l h) (sym e) ∙ was_taken (is_taken x o v) (pay_for (cost_at x o v) l (λ left. gives (value_at x o v) left)) h fine
