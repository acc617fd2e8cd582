-- How the evaluator's loop ends, as equations.
use Rattle.std.proofs.Common.{◌≡◌, ℕ, ◌-◌, ◌≤◌, List, [], ◌∷◌, ◌++◌, Some, Err, refl, sym, ap, ◌∙◌, subst}
use Rattle.cg_value.specs.Values.{Val}
use Rattle.cg_eval_machine.specs.declared.frame.Frame.{Frame}
use Rattle.cg_eval_def.specs.Evaluation.{Outcome, spent, stuck, gives, bind, Table, Context, apply, cost_of, evaluate, evaluation, IsSpent}
use Rattle.cg_eval_machine.specs.declared.halt.Halt.{Halt}
use Rattle.cg_eval_machine.specs.declared.halt.Halt.TheVariants.{StepLimit, Stuck, Memory}
use Rattle.cg_eval_machine.specs.declared.machine.Machine.{Machine}
use Rattle.cg_eval_machine.specs.Machine.{on, rest, Gave, Went}
use Rattle.cg_eval.specs.Answers.{Exact}
use Rattle.cg_eval_machine.proofs.Fixed.{Within, apply_within}
use Rattle.cg_eval_machine.proofs.Steps.{rest_push}

module _ (table : Table) where
  pub rest_done : (fs : List Frame) (c : Context) (v : Val) (l : ℕ) → fs ≡ [] → rest table fs c v l ≡ gives v l
  unfolding rest
  rest_done fs c v l e = ap (λ z. rest table z c v l) e

  pub bind_done : (o : Outcome) (fs : List Frame) (c : Context) → fs ≡ [] → bind o (rest table fs c) ≡ o
  bind_done spent fs c e = refl
  bind_done stuck fs c e = refl
  bind_done (gives v l) fs c e = rest_done fs c v l e

  pub eval_gives : (n : ℕ) (f x v : Val) (l : ℕ) → apply table (evaluate table) f x n ≡ gives v l → evaluation table n f x ≡ Some (v, n - l)
  unfolding evaluation
  eval_gives n f x v l e = ap (cost_of table n) e

  pub eval_spent : (n : ℕ) (f x : Val) → apply table (evaluate table) f x n ≡ spent → IsSpent table n f x
  unfolding evaluation
  eval_spent n f x e = record { out = e; none = ap (cost_of table n) e }

  left_of : (n : ℕ) (o : Outcome) (v : Val) (l : ℕ) → Within n o → o ≡ gives v l → l ≤ n
  left_of n o v l w e = let h : Within n (gives v l) = subst (Within n) e w in h

  pub apply_left : (n : ℕ) (f x v : Val) (l : ℕ) → apply table (evaluate table) f x n ≡ gives v l → l ≤ n
  apply_left n f x v l e = left_of n _ v l (apply_within table f x n) e

  -- the frame on top gets a value
  pub on_top : (fs gs : List Frame) (f : Frame) (c : Context) (v : Val) (l : ℕ) → gs ≡ fs ++ f ∷ [] → on table f (rest table fs) c v l ≡ rest table gs c v l
  on_top fs gs f c v l e = sym (ap (λ z. rest table z c v l) e ∙ ap (λ k. k c v l) (rest_push table fs f))

  -- a halt of a step is one of what the state gives
  pub halts : (m : Machine) (o p : Outcome) (h : Halt) → Went table m o (Err h) → o ≡ p → Gave p (Err h)
  halts m o p StepLimit w e = sym e ∙ w
  halts m o p Stuck w e = sym e ∙ w
  halts m o p Memory w e = tt {0}

  pub halts_first : (m : Machine) (n : ℕ) (f x : Val) (fs : List Frame) (c : Context) (h : Halt) → fs ≡ []
      → Went table m (bind (apply table (evaluate table) f x n) (rest table fs c)) (Err h) → Exact table n f x (Err h)
  halts_first m n f x fs c StepLimit e w = eval_spent n f x (sym (bind_done (apply table (evaluate table) f x n) fs c e) ∙ w)
  halts_first m n f x fs c Stuck e w = sym (bind_done (apply table (evaluate table) f x n) fs c e) ∙ w
  halts_first m n f x fs c Memory e w = tt {0}
