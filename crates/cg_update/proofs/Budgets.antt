-- What a run gives, it gives with every budget from its cost on, at any depth above that budget.
use Rattle.std.proofs.Common.{◌≡◌, ℕ, zero, suc, ◌+◌, ◌-◌, ◌<◌, ◌≤◌, Bool, true, false, cond, nat_eq, nat_lt, List, [], ◌∷◌, ◌++◌, slice_get, Option, Some, None, refl, sym, ap, subst, ltb-false, ltb-true, arith}
use Rattle.cg_base.specs.declared.fun.Fun.{Fun}
use Rattle.cg_base.specs.declared.fun.Fun.TheVariants.{User, Lib as OfLib}
use Rattle.cg_base.specs.declared.fun.Lib.{Lib}
use Rattle.cg_base.specs.declared.kind.Sigil.{Sigil}
use Rattle.cg_base.specs.declared.kind.Sigil.TheVariants.{R, W, U}
use Rattle.cg_base.specs.Types.{Tau}
use Rattle.cg_core.specs.declared.op.Op.{Op}
use Rattle.cg_core.specs.Terms.{Note, Tree, term, Shape, var, unit, bool, lit, fun, op, app, lets, let_bang, if_else, con, case_of, esac, struct, member, take_field, put, cast, annot, Trees, none, more, Named, end, field as named}
use Rattle.cg_heap.specs.declared.cell.Scalar.{Scalar}
use Rattle.cg_heap.specs.Reps.{first_number, tail}
use Rattle.cg_eval_operations.specs.Iterators.{is_iterator}
use Rattle.cg_eval_operations.specs.Positions.{position}
use Rattle.cg_typing.specs.Functions.{arg_types}
use Rattle.cg_typing.specs.Instances.{Entry, Instance}
use Rattle.cg_typing.specs.Parts.{given_by, taken_by}
use Rattle.cg_typing.specs.Rules.{type_at}
use Rattle.cg_update.specs.Calls.{Program, abstract, answer_of, argument_of, has_cells, library, library_cost, types_of}
use Rattle.cg_update.specs.Laws.{DepthIsFree, MoreBudget}
use Rattle.cg_update.specs.Machines.{is_machine, part_at, with_part_at}
use Rattle.cg_update.specs.Outcomes.{State, starting, with_store, Outcome, no_result, gives, bind, on, where_true, pay, pay_for}
use Rattle.cg_update.specs.Turns.{Argument, alternatives_in, asked, carried, ended, field_in, field_type, fields_in, has_array, indices, place_in, stops, turns, written}
use Rattle.cg_update.specs.Updates.{Calls, Result, Variables, calls_source, calls_within, entered, entered_by, formed, given_outside, is_of_source, iterated, operated, outcome, place_of, read, result_of, row_of, sigil_of, update, update_fields, update_shape, updated, with_row, write}

-- What the first run gives with a budget of l, at a cost within l, the second gives too with a budget of r below n, wherever r is enough
-- for that cost.
unfoldable pub More : ℕ → ℕ → ℕ → Outcome → Outcome → Type 0
More n l r no_result q = Unit {0}
More n l r (gives us s a) q = (a ≤ l) × (r < n → (b : ℕ) → r + a ≡ l + b → q ≡ gives us s b)

-- ---- the steps of a run

-- nothing is asked where the first run gives nothing
none_more : (n l r : ℕ) (q : Outcome) → More n l r no_result q
unfolding More
none_more n l r q = tt

-- what is given at once leaves all of either budget
gives_more : (n l r : ℕ) (us : List Scalar) (s : State) → More n l r (gives us s l) (gives us s r)
unfolding More
gives_more n l r us s = (omega arith, λ w b e. ap (gives us s) (omega (arith, e)))

-- for fewer budgets
less_more : (n l r : ℕ) (o q : Outcome) → More (suc n) l r o q → More n l r o q
unfolding More
less_more n l r no_result q m = tt
less_more n l r (gives us s a) q m = (m.0, λ w. m.1 (omega (arith, w)))

-- with no budget below n, only the bound on what is left stays
least_more : (n l r : ℕ) (o q q' : Outcome) → More n l r o q → More 0 l r o q'
unfolding More
least_more n l r no_result q q' m = tt
least_more n l r (gives us s a) q q' m = (m.0, λ w. absurd (omega (arith, w)))

-- what is left is no more than there was
left_below : (n l r : ℕ) (us : List Scalar) (s : State) (a : ℕ) (q : Outcome) → More n l r (gives us s a) q → a ≤ l
unfolding More
left_below n l r us s a q m = m.0

-- the second run's result, where the first one's is behind another
then_same : (n l r a c : ℕ) (us ws : List Scalar) (s t : State) (q : Outcome) (k : List Scalar → State → ℕ → Outcome) → a ≤ l → c ≤ a → r < n
    → ((b : ℕ) → r + a ≡ l + b → q ≡ gives us s b) → ((b : ℕ) → b < n → (e : ℕ) → b + c ≡ a + e → k us s b ≡ gives ws t e)
    → (b : ℕ) → r + c ≡ l + b → bind q k ≡ gives ws t b
then_same n l r a c us ws s t q k i j w e h b f =
    rw (e (b + (a - c)) (omega (arith, i, j, f))) (h (b + (a - c)) (omega (arith, i, j, w, f)) b (omega (arith, j)))

-- two runs one after the other
after_more : (n l r a : ℕ) (us : List Scalar) (s : State) (o q : Outcome) (k : List Scalar → State → ℕ → Outcome) → a ≤ l
    → (r < n → (b : ℕ) → r + a ≡ l + b → q ≡ gives us s b) → ((b : ℕ) → More n a b o (k us s b)) → More n l r o (bind q k)
unfolding More
after_more n l r a us s no_result q k i e h = tt
after_more n l r a us s (gives ws t c) q k i e h =
    (omega (arith, i, (h 0).0), λ w. then_same n l r a c us ws s t q k i (h 0).0 w (e w) (λ b v. (h b).1 v))

bind_more : (n l r : ℕ) (o q : Outcome) (h k : List Scalar → State → ℕ → Outcome) → More n l r o q
    → ((us : List Scalar) (s : State) (a b : ℕ) → More n a b (h us s a) (k us s b)) → More n l r (bind o h) (bind q k)
unfolding More
bind_more n l r no_result q h k m f = tt
bind_more n l r (gives us s a) q h k m f = after_more n l r a us s (h us s a) q k m.0 m.1 (λ b. f us s a b)

-- 1 more of both budgets, at a cost of 1
paid_more : (n l r : ℕ) (o q : Outcome) → More n l r o q → More (suc n) (suc l) (suc r) o q
unfolding More
paid_more n l r no_result q m = tt
paid_more n l r (gives us s a) q m = (omega (arith, m.0), λ w b e. m.1 (omega (arith, w)) b (omega (arith, e)))

-- the second budget is 0, and a cost of 1 is more than that
spent_more : (n l : ℕ) (o q : Outcome) → More n l 0 o q → More (suc n) (suc l) 0 o no_result
unfolding More
spent_more n l no_result q m = tt
spent_more n l (gives us s a) q m = (omega (arith, m.0), λ w b e. absurd (omega (arith, e, m.0)))

-- what is behind a payment has a second budget below n where all of it was below n and 1
pay_more : (n l r : ℕ) (h k : ℕ → Outcome) → ((a b : ℕ) → More n a b (h a) (k b)) → More (suc n) l r (pay l h) (pay r k)
pay_more n zero r h k f = none_more (suc n) 0 r _
pay_more n (suc l) zero h k f = spent_more n l (h l) (k 0) (f l 0)
pay_more n (suc l) (suc r) h k f = paid_more n l r (h l) (k r) (f l r)

-- a payment beside that of a node
again_more : (n l r : ℕ) (h k : ℕ → Outcome) → ((a b : ℕ) → More n a b (h a) (k b)) → More n l r (pay l h) (pay r k)
again_more n l r h k f = less_more n l r (pay l h) (pay r k) (pay_more n l r h k f)

-- any cost, that both budgets have
cost_more : (n l r cost : ℕ) (o q : Outcome) → cost ≤ l → cost ≤ r → More n (l - cost) (r - cost) o q → More n l r o q
unfolding More
cost_more n l r cost no_result q u v m = tt
cost_more n l r cost (gives us s a) q u v m = (omega (arith, m.0), λ w b e. m.1 (omega (arith, w)) b (omega (arith, e, u, v)))

-- a cost that the second budget doesn't have
lost_more : (n l r cost : ℕ) (o q : Outcome) → cost ≤ l → r < cost → More n (l - cost) 0 o q → More n l r o no_result
unfolding More
lost_more n l r cost no_result q u v m = tt
lost_more n l r cost (gives us s a) q u v m = (omega (arith, m.0), λ w b e. absurd (omega (arith, e, m.0, u, v)))

-- any cost, tested
pay_for_more : (n cost l r : ℕ) (h k : ℕ → Outcome) → ((a b : ℕ) → More n a b (h a) (k b)) → More n l r (pay_for cost l h) (pay_for cost r k)
pay_for_more n cost l r h k f = by_tests (nat_lt l cost) (nat_lt r cost) refl refl
  where
    by_tests : (x y : Bool) → nat_lt l cost ≡ x → nat_lt r cost ≡ y → More n l r (cond x no_result (h (l - cost))) (cond y no_result (k (r - cost)))
    by_tests true y d e = none_more n l r _
    by_tests false true d e = lost_more n l r cost (h (l - cost)) (k 0) (ltb-false l cost d) (ltb-true r cost e) (f (l - cost) 0)
    by_tests false false d e =
        cost_more n l r cost (h (l - cost)) (k (r - cost)) (ltb-false l cost d) (ltb-false r cost e) (f (l - cost) (r - cost))

-- tests, and what may not be there, which are the same in both runs
cond_more : (n l r : ℕ) (x : Bool) (o o' q q' : Outcome) → More n l r o q → More n l r o' q' → More n l r (cond x o o') (cond x q q')
cond_more n l r true o o' q q' h k = h
cond_more n l r false o o' q q' h k = k

where_more : (n l r : ℕ) (x : Bool) (o q : Outcome) → More n l r o q → More n l r (where_true x o) (where_true x q)
where_more n l r true o q h = h
where_more n l r false o q h = none_more n l r _

on_more : {A : Type 0} (n l r : ℕ) (x : Option A) (h k : A → Outcome) → ((a : A) → More n l r (h a) (k a)) → More n l r (on x h) (on x k)
on_more n l r None h k f = none_more n l r _
on_more n l r (Some a) h k f = f a

-- ---- functions without a body

-- functions of the library that take no function
library_more : (n : ℕ) (lib : Lib) (args : List Tau) (us : List Scalar) (s : State) (l r : ℕ) → More n l r (library lib args us s l) (library lib args us s r)
library_more n lib args us s l r =
    where_more n l r (has_cells lib args us s.store) _ _ (pay_for_more n (library_cost lib us s.store) l r _ _ (λ a b. gives_more n a b _ _))

-- abstract functions
abstract_more : (n : ℕ) (p : Program) (t : Tau) (i : ℕ) (us : List Scalar) (s : State) (l r : ℕ) → More n l r (abstract p t i us s l) (abstract p t i us s r)
abstract_more n p t i us s l r =
    on_more n l r (answer_of p (slice_get p.functions i) us s.store) _ _ (λ x. where_more n l r (is_machine (types_of p) t x.out.result) _ _
    (pay_for_more n x.cost l r _ _ (λ a b. gives_more n a b _ _)))

-- ---- turns

-- calls that are so related
abbrev pub CallsMore : ℕ → (List Scalar → State → ℕ → Outcome) → (List Scalar → State → ℕ → Outcome) → Type 0
CallsMore n f g = (us : List Scalar) (s : State) (l r : ℕ) → More n l r (f us s l) (g us s r)

-- each turn pays 1 before its call
turns_more : (n : ℕ) (f g : List Scalar → State → ℕ → Outcome) → CallsMore n f g
    → (lib : Lib) (types : List Tau) (x : Argument) (is : List ℕ) → CallsMore (suc n) (turns f lib types x is) (turns g lib types x is)
unfolding turns
turns_more n f g h lib types x [] us s l r = gives_more (suc n) l r (ended lib x us) s
turns_more n f g h lib types x (i ∷ is) us s l r =
    pay_more n l r _ _ (λ a b. bind_more n a b _ _ _ _ (h (asked lib x i us s.store) s a b) (λ ws t a b.
    where_more n a b (has_array lib types x t.store) _ _ (cond_more n a b (stops lib x ws) _ _ _ _ (gives_more n a b ws t)
    (less_more n a b _ _ (turns_more n f g h lib types x is (carried lib x ws) (with_store (written lib x i ws t.store) t) a b)))))

-- ---- terms

module _ (p : Program) where
  -- what is given is tested in both runs
  formed_more : (n l r : ℕ) (t : Tau) (o q : Outcome) → More n l r o q → More n l r (formed p t o) (formed p t q)
  formed_more n l r t o q m = bind_more n l r o q _ _ m (λ us s a b. where_more n a b (is_machine (types_of p) t us) _ _ (gives_more n a b us s))

  -- a field that is read
  read_more : (n l r : ℕ) (t : Tau) (i : ℕ) (us : List Scalar) (s : State) (h k : List Scalar → Outcome) → ((ws : List Scalar) → More n l r (h ws) (k ws))
      → More n l r (read p t i us s h) (read p t i us s k)
  read_more n l r t i us s h k f =
      on_more n l r (row_of (sigil_of t) us s.store) _ _ (λ row. on_more n l r (part_at i (fields_in t) row) _ _ (λ ws.
      where_more n l r (is_machine (types_of p) (field_type t i) ws) _ _ (f ws)))

  -- a field that is written
  with_row_more : (n : ℕ) (sigil : Sigil) (us row : List Scalar) (s : State) (l r : ℕ) → More n l r (with_row sigil us row s l) (with_row sigil us row s r)
  with_row_more n U us row s l r = gives_more n l r _ _
  with_row_more n R us row s l r = gives_more n l r _ _
  with_row_more n W us row s l r = gives_more n l r _ _

  write_more : (n : ℕ) (t : Tau) (i : ℕ) (us ws : List Scalar) (s : State) (l r : ℕ) → More n l r (write p t i us ws s l) (write p t i us ws s r)
  write_more n t i us ws s l r =
      on_more n l r (row_of (sigil_of t) us s.store) _ _ (λ row. on_more n l r (with_part_at i (fields_in t) ws row) _ _ (λ after.
      with_row_more n (sigil_of t) us after s l r))

  module _ (n : ℕ) (c d : Calls) (H : (k : ℕ) → CallsMore n (c k) (d k)) where
    mutual
      unfolding update update_shape operated update_fields

      -- a term pays 1 before its parts
      update_more : (e : Tree Note) (vs : Variables) (s : State) (l r : ℕ) → More (suc n) l r (update p c e vs s l) (update p d e vs s r)
      update_more (term note shape) vs s l r =
          pay_more n l r _ _ (λ a b. formed_more n a b note.ty _ _ (shape_more note.ty shape vs s a b))

      shape_more : (t : Tau) (e : Shape Note) (vs : Variables) (s : State) (l r : ℕ) → More n l r (update_shape p c t e vs s l) (update_shape p d t e vs s r)
      shape_more t (var i) vs s l r = gives_more n l r _ s
      shape_more t unit vs s l r = gives_more n l r _ s
      shape_more t (bool b) vs s l r = gives_more n l r _ s
      shape_more t (lit m) vs s l r = gives_more n l r _ s
      shape_more t (fun f args) vs s l r =
          on_more n l r (place_of (record { fun = f; types = arg_types args }) p.list) _ _ (λ k. gives_more n l r _ s)
      shape_more t (op o ts) vs s l r = operated_more o ts vs s l r
      shape_more t (app f x) vs s l r =
          bind_more n l r _ _ _ _ (less_more n l r _ _ (update_more f vs s l r)) (λ us s' a b. bind_more n a b _ _ _ _ (less_more n a b _ _ (update_more x vs s' a b))
          (λ ws t a b. H (first_number us) ws t a b))
      shape_more t (lets binder e k) vs s l r =
          bind_more n l r _ _ _ _ (less_more n l r _ _ (update_more e vs s l r)) (λ us t a b. less_more n a b _ _ (update_more k (vs ++ us ∷ []) t a b))
      shape_more t (let_bang os binder e k) vs s l r =
          bind_more n l r _ _ _ _ (less_more n l r _ _ (update_more e vs s l r)) (λ us t a b. less_more n a b _ _ (update_more k (vs ++ us ∷ []) t a b))
      shape_more t (if_else e x y) vs s l r =
          bind_more n l r _ _ _ _ (less_more n l r _ _ (update_more e vs s l r)) (λ us t a b.
          cond_more n a b (nat_eq (first_number us) 0) _ _ _ _ (less_more n a b _ _ (update_more y vs t a b)) (less_more n a b _ _ (update_more x vs t a b)))
      shape_more t (con x e) vs s l r =
          again_more n l r _ _ (λ a b. bind_more n a b _ _ _ _ (less_more n a b _ _ (update_more e vs s a b)) (λ us s' a b. gives_more n a b _ s'))
      shape_more t (case_of e at binder x y) vs s l r =
          bind_more n l r _ _ _ _ (less_more n l r _ _ (update_more e vs s l r)) (λ us t a b.
          cond_more n a b (nat_eq (first_number us) (place_in at.name (type_at e))) _ _ _ _
          (on_more n a b (part_at (place_in at.name (type_at e)) (alternatives_in (type_at e)) (tail us)) _ _ (λ ws. less_more n a b _ _ (update_more x (vs ++ ws ∷ []) t a b)))
          (less_more n a b _ _ (update_more y (vs ++ us ∷ []) t a b)))
      shape_more t (esac at e) vs s l r =
          bind_more n l r _ _ _ _ (less_more n l r _ _ (update_more e vs s l r)) (λ us t a b.
          on_more n a b (part_at (place_in at.name (type_at e)) (alternatives_in (type_at e)) (tail us)) _ _ (λ ws. gives_more n a b ws t))
      shape_more t (struct fs) vs s l r = fields_more fs vs [] s l r
      shape_more t (member e at) vs s l r =
          bind_more n l r _ _ _ _ (less_more n l r _ _ (update_more e vs s l r)) (λ us t a b.
          read_more n a b (type_at e) (position at.name (type_at e)) us t _ _ (λ ws. gives_more n a b ws t))
      shape_more t (take_field e at x y k) vs s l r =
          bind_more n l r _ _ _ _ (less_more n l r _ _ (update_more e vs s l r)) (λ us t a b.
          read_more n a b (type_at e) (position at.name (type_at e)) us t _ _ (λ ws. less_more n a b _ _ (update_more k (vs ++ us ∷ ws ∷ []) t a b)))
      shape_more t (put e at x) vs s l r =
          bind_more n l r _ _ _ _ (less_more n l r _ _ (update_more e vs s l r)) (λ us s' a b.
          again_more n a b _ _ (λ a b. bind_more n a b _ _ _ _ (less_more n a b _ _ (update_more x vs s' a b)) (λ ws t a b.
          write_more n (type_at e) (position at.name (type_at e)) us ws t a b)))
      shape_more t (cast e) vs s l r = less_more n l r _ _ (update_more e vs s l r)
      shape_more t (annot e arg) vs s l r = less_more n l r _ _ (update_more e vs s l r)

      operated_more : (o : Op) (ts : Trees Note) (vs : Variables) (s : State) (l r : ℕ) → More n l r (operated p c o ts vs s l) (operated p d o ts vs s r)
      operated_more o (more x none) vs s l r =
          bind_more n l r _ _ _ _ (less_more n l r _ _ (update_more x vs s l r)) (λ us t a b. gives_more n a b _ t)
      operated_more o (more x (more y none)) vs s l r =
          bind_more n l r _ _ _ _ (less_more n l r _ _ (update_more x vs s l r)) (λ us s' a b. bind_more n a b _ _ _ _ (less_more n a b _ _ (update_more y vs s' a b))
          (λ ws t a b. gives_more n a b _ t))
      operated_more o ts vs s l r = none_more n l r _

      fields_more : (fs : Named Note) (vs : Variables) (row : List Scalar) (s : State) (l r : ℕ)
          → More n l r (update_fields p c fs vs row s l) (update_fields p d fs vs row s r)
      fields_more end vs row s l r = gives_more n l r row s
      fields_more (named x e fs) vs row s l r =
          again_more n l r _ _ (λ a b. bind_more n a b _ _ _ _ (less_more n a b _ _ (update_more e vs s a b)) (λ us t a b. fields_more fs vs (row ++ us) t a b))

    -- ---- instances

    -- what an iterator calls
    source_more : (x : Option Instance) (k : ℕ) → CallsMore n (calls_source p c x k) (calls_source p d x k)
    source_more None k us s l r = none_more n l r _
    source_more (Some x) k us s l r = cond_more n l r (is_of_source x.fun) _ _ _ _ (H k us s l r) (none_more n l r _)

    iterated_more : (lib : Lib) (types : List Tau) (x : Argument) (s : State) (l r : ℕ) → More (suc n) l r (iterated p c lib types x s l) (iterated p d lib types x s r)
    iterated_more lib types x s l r =
        where_more (suc n) l r (has_array lib types x s.store) _ _ (turns_more n _ _
        (source_more (slice_get p.list (first_number (field_in x 3))) (first_number (field_in x 3))) lib types x (indices lib x s.store) (field_in x 4) s l r)

    outside_more : (f : Fun) (types : List Tau) (t : Tau) → CallsMore (suc n) (given_outside p c f types t) (given_outside p d f types t)
    outside_more (User i) types t us s l r = abstract_more (suc n) p (given_by t) i us s l r
    outside_more (OfLib lib) types t us s l r =
        cond_more (suc n) l r (is_iterator lib) _ _ _ _ (iterated_more lib types (record { ty = taken_by t; scalars = us }) s l r)
        (library_more (suc n) lib types us s l r)

    entered_by_more : (x : Instance) (t : Tau) (body : Option (Tree Note)) → CallsMore (suc n) (entered_by p c x t body) (entered_by p d x t body)
    entered_by_more x t (Some core) us s l r = update_more core (us ∷ []) s l r
    entered_by_more x t None us s l r = outside_more x.fun x.types t us s l r

    -- a call of an instance, which pays 1 before each call of its own
    entered_more : (x : Option Instance) (e : Option Entry) → CallsMore (suc n) (entered p c x e) (entered p d x e)
    entered_more (Some x) (Some e) us s l r = entered_by_more x e.ty e.body us s l r
    entered_more (Some x) None us s l r = none_more (suc n) l r _
    entered_more None e us s l r = none_more (suc n) l r _

  -- Calls of any depth, and calls nested at most so deep: each nested call has paid at least 1 before, so that these are deep enough for
  -- every budget below their depth.
  pub calls_more : (i j k : ℕ) → CallsMore j (calls_within p i k) (calls_within p j k)
  unfolding calls_within
  calls_more zero j k us s l r = none_more j l r _
  calls_more (suc i) zero k us s l r =
      least_more 1 l r _ _ _ (entered_more 0 (calls_within p i) (calls_within p zero) (calls_more i zero) (slice_get p.list k) (slice_get p.entries k) us s l r)
  calls_more (suc i) (suc j) k us s l r =
      entered_more j (calls_within p i) (calls_within p j) (calls_more i j) (slice_get p.list k) (slice_get p.entries k) us s l r

-- ---- the laws

-- the cost of a result; 0 where there is none
abbrev cost_in : Option Result → ℕ
cost_in None = 0
cost_in (Some x) = x.cost

abbrev found : List Scalar → State → ℕ → Option Result
found us s cost = Some (record { value = us; state = s; cost = cost })

-- what the first run gives is within its budget, and the second gives it too
result_more : (n m : ℕ) (o q : Outcome) (x : Result) → More (suc m) n m o q → result_of n o ≡ Some x → (x.cost ≤ n) × (x.cost ≤ m → result_of m q ≡ Some x)
unfolding More
result_more n m no_result q x h e = absurd (cc)
result_more n m (gives us s a) q x h e =
    subst (λ z. (cost_in z ≤ n) × (cost_in z ≤ m → result_of m q ≡ z)) e
    (omega arith, λ w. rw (h.1 (omega arith) (m + a - n) (omega (arith, h.0, w))) (ap (found us s) (omega (arith, h.0, w))))

pub more_budget : MoreBudget
unfolding updated
more_budget p n m k us s x e =
    result_more n m (outcome p n k us s) (outcome p m k us s) x
    (where_more (suc m) n m (is_machine (types_of p) (argument_of (types_of p k)) us) _ _ (calls_more p (suc n) (suc m) k us (starting s) n m)) e

-- runs that give the same wherever one of them gives anything are the same
same_runs : (m n l : ℕ) (o q : Outcome) → l < m → l < n → More n l l o q → More m l l q o → o ≡ q
unfolding More
same_runs m n l (gives us s a) q v w h k = sym (h.1 w a refl)
same_runs m n l no_result no_result v w h k = refl
same_runs m n l no_result (gives us s a) v w h k = k.1 v a refl

pub depth_is_free : DepthIsFree
depth_is_free p depth n k us s w =
    same_runs depth (suc n) n _ _ w (omega arith) (calls_more p depth (suc n) k us (starting s) n n) (calls_more p (suc n) depth k us (starting s) n n)
