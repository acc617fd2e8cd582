-- What evaluation gives at one budget it gives at every budget and with all fuel from its cost on.
use Rattle.std.proofs.Common.{◌≡◌, ℕ, zero, suc, ◌+◌, ◌-◌, ◌≤◌, Bool, true, false, cond, nat_lt, Some, refl, sym, ap, subst, ◌∙◌, arith}
use Rattle.std.proofs.lemmas.Bool.{ltb-false, le-ltb}
use Rattle.cg_core.specs.Terms.{Note, Tree}
use Rattle.cg_value.specs.Values.{Val}
use Rattle.cg_eval_def.specs.Evaluation.{Outcome, spent, stuck, gives, bind, pay, pay_for, Table, Context, apply, node, evaluate, evaluation, with_fuel, fuelled, cost_of}
use Rattle.cg_eval.specs.Laws.{MoreBudget, FuelIsFree}
use Rattle.cg_eval_machine.proofs.Fixed.{at_node, at_none, node_within, Within}
use Rattle.cg_eval_machine.proofs.Lifts.{Lifts, node_lifts, apply_lifts}

-- what o gives at a budget of l at a cost of at most b, p gives at a budget of m at the same cost
abbrev pub Shift : ℕ → ℕ → ℕ → Outcome → Outcome → Type 0
Shift b l m o p = (v : Val) (j : ℕ) → o ≡ gives v j → (j ≤ l) × (l ≤ b + j → (i : ℕ) → i + l ≡ m + j → p ≡ gives v i)

gives_shift : (b : ℕ) (w : Val) (l m : ℕ) → Shift b l m (gives w l) (gives w m)
gives_shift b w l m v j e =
    let q : l ≡ j = cc in let r : w ≡ v = cc in
    (omega arith, λ u i h. let s : m ≡ i = omega arith in cc)

bind_shift : (b l m : ℕ) (o p : Outcome) (h k : Val → ℕ → Outcome) → Shift b l m o p → ((v : Val) (x y : ℕ) → x ≤ l → Shift b x y (h v x) (k v y)) → Shift b l m (bind o h) (bind p k)
bind_shift b l m spent p h k s f v j e = absurd (cc)
bind_shift b l m stuck p h k s f v j e = absurd (cc)
bind_shift b l m (gives u a) p h k s f v j e =
    let first = s u a refl in
    let near = f u a 0 first.0 v j e in (
      omega (arith, first.0, near.0),
      λ t i q. let d = i + (a - j) in
          let one : p ≡ gives u d = first.1 (omega (arith, t, near.0)) d (omega (arith, first.0, near.0)) in
          let two : k u d ≡ gives v i = (f u a d first.0 v j e).1 (omega (arith, t, first.0)) i (omega (arith, near.0)) in
          ap (λ o. bind o k) one ∙ two,
    )

cost_by : (l c : ℕ) (w v : Val) (j : ℕ) (b : Bool) → nat_lt l c ≡ b → cond b spent (gives w (l - c)) ≡ gives v j → (w ≡ v) × (l ≡ c + j)
cost_by l c w v j true t e = absurd (cc)
cost_by l c w v j false t e =
    let d : c ≤ l = ltb-false l c t in let s : l - c ≡ j = cc in let r : w ≡ v = cc in (r, omega arith)

cost_at : (m c : ℕ) (w : Val) (i : ℕ) → m ≡ c + i → pay_for c m (λ z. gives w z) ≡ gives w i
cost_at m c w i d =
    let b : nat_lt m c ≡ false = le-ltb m c (omega arith) in let s : m - c ≡ i = omega arith in
    ap (λ t. cond t spent (gives w (m - c))) b ∙ ap (gives w) s

cost_shift : (b l m c : ℕ) (w : Val) → Shift b l m (pay_for c l (λ z. gives w z)) (pay_for c m (λ z. gives w z))
cost_shift b l m c w v j e =
    let one : (w ≡ v) × (l ≡ c + j) = cost_by l c w v j (nat_lt l c) refl e in (
      omega (arith, one.1),
      λ t i q. let d : m ≡ c + i = omega (arith, one.1) in
          cost_at m c w i d ∙ ap (λ z. gives z i) one.0,
    )

pay_shift : (b n l m : ℕ) (h k : ℕ → Outcome) → l ≤ n → ((x y : ℕ) → x ≤ n → Shift b x y (h x) (k y)) → Shift b l m (pay l h) (pay m k)
pay_shift b n zero m h k w f v j e = absurd (cc)
pay_shift b n (suc l) zero h k w f v j e =
    let r = f l 0 (omega arith) v j e in (omega (arith, r.0), λ t i q. absurd (omega (arith, r.0, q)))
pay_shift b n (suc l) (suc m) h k w f v j e =
    let r = f l m (omega arith) v j e in (omega (arith, r.0), λ t i q. r.1 (omega (arith, t)) i (omega (arith, q)))

shift_lifts : (b n : ℕ) → Lifts n (λ l r. Unit {0}) (Shift b)
shift_lifts b n = record {
  on_gives = λ v l r w d. gives_shift b v l r;
  on_bind = λ l r o p h k w e f. bind_shift b l r o p h k e (λ v x y u. f v x y (omega (arith, u, w)) (tt {0}));
  on_pay = λ l r h k w d f. pay_shift b n l r h k w (λ x y u. f x y u (tt {0}));
  on_stuck = λ l r w d v j e. absurd (cc);
  on_cost = λ l r c w h d. cost_shift b l r c w;
}

left_of : (n : ℕ) (o : Outcome) (v : Val) (l : ℕ) → Within n o → o ≡ gives v l → l ≤ n
left_of n o v l w e = let h : Within n (gives v l) = subst (Within n) e w in h

module _ (table : Table) where
  -- what a node gives at a cost of at most b + 1 it gives with as much fuel
  one_more : (b l : ℕ) → ((t : Tree Note) (c : Context) (l m : ℕ) → Shift b l m (evaluate table t c l) (with_fuel table b t c m))
      → (t : Tree Note) (c : Context) (m : ℕ) → Shift b l m (node table (evaluate table) t c l) (node table (with_fuel table b) t c m)
  one_more b l s t c m = node_lifts l (λ x y. Unit {0}) (Shift b) (shift_lifts b l) table (evaluate table) (with_fuel table b) (λ t c x y w d. s t c x y) t c l m (omega arith) (tt {0})

  pub steady : (b : ℕ) (t : Tree Note) (c : Context) (l m : ℕ) → Shift b l m (evaluate table t c l) (with_fuel table b t c m)
  unfolding with_fuel
  steady b t c zero m v j e = let bad : spent ≡ gives v j = sym (at_none table t c) ∙ e in absurd (cc)
  steady zero t c (suc l) m v j e =
      let w : j ≤ l = left_of l _ v j (node_within table t c l) (sym (at_node table t c l) ∙ e) in
      (omega (arith, w), λ u i q. absurd (omega (arith, w, u)))
  steady (suc b) t c (suc l) zero v j e =
      let w : j ≤ l = left_of l _ v j (node_within table t c l) (sym (at_node table t c l) ∙ e) in
      (omega (arith, w), λ u i q. absurd (omega (arith, w, q)))
  steady (suc b) t c (suc l) (suc m) v j e =
      let r = one_more b l (steady b) t c m v j (sym (at_node table t c l) ∙ e) in
      (omega (arith, r.0), λ u i q. r.1 (omega (arith, u)) i (omega (arith, q)))

  apply_steady : (b : ℕ) (f x : Val) (l m : ℕ) → Shift b l m (apply table (evaluate table) f x l) (apply table (with_fuel table b) f x m)
  apply_steady b f x l m =
      apply_lifts l (λ x y. Unit {0}) (Shift b) (shift_lifts b l) table (evaluate table) (with_fuel table b) (λ t c x y w d. steady b t c x y) f x l m (omega arith) (tt {0})

  result_is : (n k : ℕ) (v : Val) (o : Outcome) → cost_of table n o ≡ Some (v, k) → (j : ℕ) × (o ≡ gives v j) × (n - j ≡ k)
  result_is n k v spent e = absurd (cc)
  result_is n k v stuck e = absurd (cc)
  result_is n k v (gives u j) e =
      let p : Val × ℕ = (u, n - j) in let q : Val × ℕ = (v, k) in let r : p ≡ q = cc in
      (j, ap (λ z. gives z j) (ap (λ z. z.0) r), ap (λ z. z.1) r)

  given : (m k : ℕ) (v : Val) (o : Outcome) → k ≤ m → o ≡ gives v (m - k) → cost_of table m o ≡ Some (v, k)
  given m k v o w e = let c : m - (m - k) ≡ k = omega (arith, w) in ap (cost_of table m) e ∙ ap (λ z. Some (v, z)) c

  -- a result at a budget of n, with all fuel and at all budgets from the cost on
  moved : (b n m k : ℕ) (f x v : Val) → evaluation table n f x ≡ Some (v, k) → (k ≤ n) × (k ≤ b → k ≤ m → apply table (with_fuel table b) f x m ≡ gives v (m - k))
  unfolding evaluation
  moved b n m k f x v e =
      let r = result_is n k v (apply table (evaluate table) f x n) e in
      let s = apply_steady b f x n m v r.0 r.1 in
      (omega (arith, r.2), λ u w. s.1 (omega (arith, r.2, s.0, u)) (m - k) (omega (arith, r.2, s.0, w)))

-- what o gives p gives, with no more than n left
abbrev pub Under : ℕ → Outcome → Outcome → Type 0
Under n o p = (v : Val) (j : ℕ) → o ≡ gives v j → (j ≤ n) × (p ≡ gives v j)

gives_under : (n l r : ℕ) (w : Val) → l ≤ n → l ≡ r → Under n (gives w l) (gives w r)
gives_under n l r w h d v j e =
    let q : l ≡ j = cc in (omega (arith, h), ap (gives w) (sym d) ∙ e)

bind_under : (n : ℕ) (o p : Outcome) (h k : Val → ℕ → Outcome) → Under n o p → ((v : Val) (x : ℕ) → x ≤ n → Under n (h v x) (k v x)) → Under n (bind o h) (bind p k)
bind_under n spent p h k s f v j e = absurd (cc)
bind_under n stuck p h k s f v j e = absurd (cc)
bind_under n (gives u a) p h k s f v j e =
    let first = s u a refl in let then' = f u a first.0 v j e in (then'.0, ap (λ o. bind o k) first.1 ∙ then'.1)

cost_under : (n l r c : ℕ) (w : Val) → l ≤ n → l ≡ r → Under n (pay_for c l (λ z. gives w z)) (pay_for c r (λ z. gives w z))
cost_under n l r c w h d v j e =
    let one : (w ≡ v) × (l ≡ c + j) = cost_by l c w v j (nat_lt l c) refl e in
    (omega (arith, h, one.1), ap (λ z. pay_for c z (λ y. gives w y)) (sym d) ∙ e)

pay_under : (n l r : ℕ) (h k : ℕ → Outcome) → l ≤ n → l ≡ r → ((x : ℕ) → x ≤ n → Under n (h x) (k x)) → Under n (pay l h) (pay r k)
pay_under n zero r h k w d f v j e = absurd (cc)
pay_under n (suc l) r h k w d f v j e =
    let one = f l (omega arith) v j e in (one.0, ap (λ z. pay z k) (sym d) ∙ one.1)

under_lifts : (n : ℕ) → Lifts n (λ l r. l ≡ r) (λ l r o p. Under n o p)
under_lifts n = record {
  on_gives = λ v l r w d. gives_under n l r v w d;
  on_bind = λ l r o p h k w e f. bind_under n o p h k e (λ v x u. f v x x u refl);
  on_pay = λ l r h k w d f. pay_under n l r h k w d (λ x u. f x x u refl);
  on_stuck = λ l r w d v j e. absurd (cc);
  on_cost = λ l r c w h d. cost_under n l r c w h d;
}

under_at : (n x y : ℕ) (o : Outcome) (p : ℕ → Outcome) → x ≤ n → x ≡ y → Under x o (p x) → Under n o (p y)
under_at n x y o p w d h v j e = let r = h v j e in (omega (arith, r.0, w), ap p (sym d) ∙ r.1)

module _ (table : Table) where
  no_more : (b l : ℕ) → ((t : Tree Note) (c : Context) (x : ℕ) → Under x (with_fuel table b t c x) (evaluate table t c x))
      → (t : Tree Note) (c : Context) → Under l (node table (with_fuel table b) t c l) (node table (evaluate table) t c l)
  no_more b l s t c =
      node_lifts l (λ x y. x ≡ y) (λ x y o p. Under l o p) (under_lifts l) table (with_fuel table b) (evaluate table)
      (λ t c x y w d. under_at l x y _ (evaluate table t c) w d (s t c x)) t c l l (omega arith) refl

  pub fuel_under : (b : ℕ) (t : Tree Note) (c : Context) (l : ℕ) → Under l (with_fuel table b t c l) (evaluate table t c l)
  unfolding with_fuel
  fuel_under zero t c l v j e = absurd (cc)
  fuel_under (suc b) t c zero v j e = absurd (cc)
  fuel_under (suc b) t c (suc l) v j e =
      let r = no_more b l (fuel_under b) t c v j e in (omega (arith, r.0), at_node table t c l ∙ r.1)

  apply_under : (b : ℕ) (f x : Val) (n : ℕ) → Under n (apply table (with_fuel table b) f x n) (apply table (evaluate table) f x n)
  apply_under b f x n =
      apply_lifts n (λ x y. x ≡ y) (λ x y o p. Under n o p) (under_lifts n) table (with_fuel table b) (evaluate table)
      (λ t c x y w d. under_at n x y _ (evaluate table t c) w d (fuel_under b t c x)) f x n n (omega arith) refl

  fuel_more : (b n k : ℕ) (f x v : Val) → evaluation table n f x ≡ Some (v, k) → k ≤ b → fuelled table b n f x ≡ Some (v, k)
  unfolding fuelled
  fuel_more b n k f x v e w =
      let r = moved table b n n k f x v e in given table n k v _ r.0 (r.1 w r.0)

  fuel_back : (b n k : ℕ) (f x v : Val) → fuelled table b n f x ≡ Some (v, k) → evaluation table n f x ≡ Some (v, k)
  unfolding fuelled evaluation
  fuel_back b n k f x v e =
      let r = result_is table n k v (apply table (with_fuel table b) f x n) e in
      let s = apply_under b f x n v r.0 r.1 in
      ap (cost_of table n) s.1 ∙ ap (λ z. Some (v, z)) r.2

  fuelled_at : (n m k : ℕ) (f x v : Val) → evaluation table n f x ≡ Some (v, k) → k ≤ m → fuelled table k m f x ≡ Some (v, k)
  unfolding fuelled
  fuelled_at n m k f x v e w = given table m k v _ w ((moved table k n m k f x v e).1 (omega arith) w)

  more : (n m k : ℕ) (f x v : Val) → evaluation table n f x ≡ Some (v, k) → k ≤ m → evaluation table m f x ≡ Some (v, k)
  more n m k f x v e w = fuel_back k m k f x v (fuelled_at n m k f x v e w)

pub more_budget : MoreBudget
more_budget table n m k f x v e = ((moved table 0 n m k f x v e).0, more table n m k f x v e)

pub fuel_is_free : FuelIsFree
fuel_is_free table b n k f x v = (fuel_more table b n k f x v, fuel_back table b n k f x v)
