-- Evaluation needs no more fuel than its budget, so it meets its own equation.
use Rattle.std.proofs.Common.{◌≡◌, ℕ, zero, suc, ◌-◌, ◌≤◌, Bool, true, false, cond, nat_lt, refl, ap, ◌∙◌, arith}
use Rattle.cg_core.specs.Terms.{Note, Tree}
use Rattle.cg_value.specs.Values.{Val}
use Rattle.cg_eval_def.specs.Evaluation.{Outcome, spent, stuck, gives, bind, pay, pay_for, Table, Context, Run, apply, node, with_fuel, evaluate}
use Rattle.cg_eval_machine.proofs.Lifts.{Lifts, Both, node_lifts, apply_lifts}

-- no more than n is left
abbrev pub Within : ℕ → Outcome → Type 0
Within n spent = Unit {0}
Within n stuck = Unit {0}
Within n (gives v l) = l ≤ n

-- the same, and no more than n is left
pub record Like (n : ℕ) (o p : Outcome) : Type 0 where
  pub same : o ≡ p
  pub within : Within n o

within_more : (m n : ℕ) (o : Outcome) → m ≤ n → Within m o → Within n o
within_more m n spent h w = tt
within_more m n stuck h w = tt
within_more m n (gives v l) h w = omega arith

pub like_more : (m n : ℕ) (o p : Outcome) → m ≤ n → Like m o p → Like n o p
like_more m n o p h e = record { same = e.same; within = within_more m n o h e.within }

bind_within : (n : ℕ) (o : Outcome) (h k : Val → ℕ → Outcome) → Within n o → ((v : Val) (l : ℕ) → l ≤ n → Like n (h v l) (k v l)) → Like n (bind o h) (bind o k)
bind_within n spent h k w f = record { same = refl; within = tt }
bind_within n stuck h k w f = record { same = refl; within = tt }
bind_within n (gives v l) h k w f = f v l w

bind_like : (n : ℕ) (o p : Outcome) (h k : Val → ℕ → Outcome) → Like n o p → ((v : Val) (l : ℕ) → l ≤ n → Like n (h v l) (k v l)) → Like n (bind o h) (bind p k)
bind_like n o p h k e f =
    let r = bind_within n o h k e.within f in record { same = r.same ∙ ap (λ z. bind z k) e.same; within = r.within }

-- two evaluations that agree up to a budget
abbrev pub Agree : ℕ → Run → Run → Type 0
Agree n f g = (t : Tree Note) (c : Context) (l : ℕ) → l ≤ n → Like n (f t c l) (g t c l)

cost_like : (n l c : ℕ) (w : Val) (b : Bool) → l ≤ n → Like n (cond b spent (gives w (l - c))) (cond b spent (gives w (l - c)))
cost_like n l c w true h = record { same = refl; within = tt }
cost_like n l c w false h = record { same = refl; within = omega arith }

pay_like : (n l : ℕ) (h k : ℕ → Outcome) → l ≤ n → ((a : ℕ) → a ≤ n → Like n (h a) (k a)) → Like n (pay l h) (pay l k)
pay_like n zero h k w f = record { same = refl; within = tt }
pay_like n (suc l) h k w f = f l (omega arith)

like_lifts : (n : ℕ) → Lifts n (λ l r. l ≡ r) (λ l r o p. Like n o p)
like_lifts n = record {
  on_gives = λ v l r w d. record { same = ap (gives v) d; within = w };
  on_bind = λ l r o p h k w e f. bind_like n o p h k e (λ v m u. f v m m u refl);
  on_pay = λ l r h k w d f. let q = pay_like n l h k w (λ a u. f a a u refl) in
      record { same = q.same ∙ ap (λ z. pay z k) d; within = q.within };
  on_stuck = λ l r w d. record { same = refl; within = tt };
  on_cost = λ l r c w h d. let q = cost_like n l c w (nat_lt l c) h in
      record { same = q.same ∙ ap (λ z. pay_for c z (λ y. gives w y)) d; within = q.within };
}

agree_both : (n : ℕ) (f g : Run) → Agree n f g → Both n (λ l r. l ≡ r) (λ l r o p. Like n o p) (like_lifts n) f g
agree_both n f g a t c l r w d = let q = a t c l w in record { same = q.same ∙ ap (g t c) d; within = q.within }

module _ (table : Table) where
  node_like : (n : ℕ) (f g : Run) → Agree n f g → (t : Tree Note) (c : Context) (l : ℕ) → l ≤ n → Like n (node table f t c l) (node table g t c l)
  node_like n f g a t c l w = node_lifts n _ _ (like_lifts n) table f g (agree_both n f g a) t c l l w refl

  apply_like : (n : ℕ) (f g : Run) → Agree n f g → (v x : Val) (l : ℕ) → l ≤ n → Like n (apply table f v x l) (apply table g v x l)
  apply_like n f g a v x l w = apply_lifts n _ _ (like_lifts n) table f g (agree_both n f g a) v x l l w refl

  -- any fuel from the budget on gives the same
  enough : (g h n : ℕ) → n ≤ g → n ≤ h → Agree n (with_fuel table g) (with_fuel table h)
  unfolding with_fuel
  enough zero zero n p q t c l w = record { same = refl; within = tt }
  enough zero (suc h) n p q t c zero w = record { same = refl; within = tt }
  enough zero (suc h) n p q t c (suc l) w = absurd (omega arith)
  enough (suc g) zero n p q t c zero w = record { same = refl; within = tt }
  enough (suc g) zero n p q t c (suc l) w = absurd (omega arith)
  enough (suc g) (suc h) n p q t c zero w = record { same = refl; within = tt }
  enough (suc g) (suc h) n p q t c (suc l) w =
      like_more l n _ _ (omega arith)
      (node_like l (with_fuel table g) (with_fuel table h) (enough g h l (omega arith) (omega arith)) t c l (omega arith))

  -- evaluation by its own parts
  pub at_node : (t : Tree Note) (c : Context) (l : ℕ) → evaluate table t c (suc l) ≡ node table (evaluate table) t c l
  unfolding with_fuel evaluate
  at_node t c l =
      (node_like l (with_fuel table l) (evaluate table)
      (λ t c m w. like_more m l _ _ w (enough l m m w (omega arith) t c m (omega arith))) t c l (omega arith)).same

  pub at_none : (t : Tree Note) (c : Context) → evaluate table t c zero ≡ spent
  unfolding with_fuel evaluate
  at_none t c = refl

  -- what is left is no more than the budget
  pub left_within : (t : Tree Note) (c : Context) (l : ℕ) → Within l (evaluate table t c l)
  unfolding evaluate
  left_within t c l = (enough l l l (omega arith) (omega arith) t c l (omega arith)).within

  self_agrees : (l : ℕ) → Agree l (evaluate table) (evaluate table)
  self_agrees l t c m w = like_more m l _ _ w (record { same = refl; within = left_within t c m })

  pub node_within : (t : Tree Note) (c : Context) (l : ℕ) → Within l (node table (evaluate table) t c l)
  node_within t c l = (node_like l (evaluate table) (evaluate table) (self_agrees l) t c l (omega arith)).within

  pub apply_within : (v x : Val) (l : ℕ) → Within l (apply table (evaluate table) v x l)
  apply_within v x l = (apply_like l (evaluate table) (evaluate table) (self_agrees l) v x l (omega arith)).within
