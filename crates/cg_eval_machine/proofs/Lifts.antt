-- What holds of two evaluations wherever it holds of their parts.
use Rattle.std.proofs.Common.{ℕ, ◌≤◌, List, [], ◌∷◌, ◌++◌, Bool, true, false, cond, if◌then◌else◌, Option, Some, None}
use Rattle.cg_base.specs.declared.fun.Fun.{Fun}
use Rattle.cg_base.specs.declared.fun.Fun.TheVariants.{User, Lib as OfLib}
use Rattle.cg_base.specs.declared.fun.Lib.{Lib}
use Rattle.cg_base.specs.Types.{Tau}
use Rattle.cg_core.specs.Terms.{Note, Tree, term, Shape, var, unit, bool, lit, fun, op, app, lets, let_bang, if_else, con, case_of, esac, struct, member, take_field, put, cast, annot, none, more, Named, end, field as named}
use Rattle.cg_lib_value.specs.Library.{library_cost, library_value}
use Rattle.cg_typing.specs.Rules.{type_at}
use Rattle.cg_value.specs.Forms.{field, has_name, is_true, payload_in, without}
use Rattle.cg_value.specs.Values.{Val, function}
use Rattle.cg_eval_def.specs.Evaluation.{Outcome, stuck, gives, bind, pay, pay_for, Table, Body, Context, push, only, Run, all_of, turns, call, enter, apply_fun, apply, node_shape, node}
use Rattle.cg_eval_operations.specs.Iterators.{asked, changed, carried, ended, indices, is_iterator, stops}
use Rattle.cg_eval_operations.specs.Positions.{position}

-- A relation of two outcomes, at the budgets that they begin with, that the steps of evaluation keep. `Near` relates the budgets,
-- and none of the first is above n.
pub record Lifts (n : ℕ) (Near : ℕ → ℕ → Type 0) (R : ℕ → ℕ → Outcome → Outcome → Type 0) : Type 0 where
  pub on_gives : (v : Val) (l r : ℕ) → l ≤ n → Near l r → R l r (gives v l) (gives v r)
  pub on_bind : (l r : ℕ) (o p : Outcome) (h k : Val → ℕ → Outcome) → l ≤ n → R l r o p
      → ((v : Val) (a b : ℕ) → a ≤ n → Near a b → R a b (h v a) (k v b)) → R l r (bind o h) (bind p k)
  pub on_pay : (l r : ℕ) (h k : ℕ → Outcome) → l ≤ n → Near l r
      → ((a b : ℕ) → a ≤ n → Near a b → R a b (h a) (k b)) → R l r (pay l h) (pay r k)
  pub on_stuck : (l r : ℕ) → l ≤ n → Near l r → R l r stuck stuck
  pub on_cost : (l r c : ℕ) (w : Val) → l ≤ n → Near l r → R l r (pay_for c l (λ z. gives w z)) (pay_for c r (λ z. gives w z))

module _ (n : ℕ) (Near : ℕ → ℕ → Type 0) (R : ℕ → ℕ → Outcome → Outcome → Type 0) (s : Lifts n Near R) where
  cond_lifts : (l r : ℕ) (b : Bool) (o p o' p' : Outcome) → R l r o o' → R l r p p' → R l r (cond b o p) (cond b o' p')
  cond_lifts l r true o p o' p' x y = x
  cond_lifts l r false o p o' p' x y = y

  turns_lifts : (f g : ℕ → Val → Val → ℕ → Outcome) (lib : Lib) (is : List ℕ) (x y : Val) (l r : ℕ)
      → ((i : ℕ) (x y : Val) (a b : ℕ) → a ≤ n → Near a b → R a b (f i x y a) (g i x y b)) → l ≤ n → Near l r → R l r (turns f lib is x y l) (turns g lib is x y r)
  unfolding turns
  turns_lifts f g lib [] x y l r h w d = s.on_gives (ended lib x y) l r w d
  turns_lifts f g lib (i ∷ is) x y l r h w d =
      s.on_pay l r _ _ w d (λ a b u z. s.on_bind a b _ _ _ _ u (h i x y a b u z) (λ v a b u z.
      cond_lifts a b (stops lib v) _ _ _ _ (s.on_gives v a b u z) (turns_lifts f g lib is (changed lib i x v) (carried lib v) a b h u z)))

  -- two evaluations that are so related
  abbrev pub Both : Run → Run → Type 0
  Both f g = (t : Tree Note) (c : Context) (l r : ℕ) → l ≤ n → Near l r → R l r (f t c l) (g t c r)

  all_lifts : (f g : Run) → Both f g → (fs : Named Note) (c : Context) (vs : List Val) (l r : ℕ) → l ≤ n → Near l r → R l r (all_of f fs c vs l) (all_of g fs c vs r)
  unfolding all_of
  all_lifts f g e end c vs l r w d = s.on_gives _ l r w d
  all_lifts f g e (named x t fs) c vs l r w d =
      s.on_pay l r _ _ w d (λ a b u z. s.on_bind a b _ _ _ _ u (e t c a b u z) (λ v a b u z. all_lifts f g e fs c (vs ++ v ∷ []) a b u z))

  module _ (table : Table) (f g : Run) (e : Both f g) where
    enter_lifts : (i : ℕ) (x : Val) (l r : ℕ) (b : Option Body) → l ≤ n → Near l r → R l r (enter table f i x l b) (enter table g i x r b)
    enter_lifts i x l r (Some body) w d = e body.term (only body.types x) l r w d
    enter_lifts i x l r None w d =
        cond_lifts l r (table.takes i x) _ _ _ _ (s.on_cost l r (table.cost i x) (table.value i x) w d) (s.on_stuck l r w d)

    call_lifts : (v x : Val) (l r : ℕ) → l ≤ n → Near l r → R l r (call table f v x l) (call table g v x r)
    call_lifts (function (User i) ts) x l r w d = enter_lifts i x l r (table.body i ts) w d
    call_lifts _ x l r w d = s.on_stuck l r w d

    fun_lifts : (v : Fun) (ts : List Tau) (x : Val) (l r : ℕ) → l ≤ n → Near l r → R l r (apply_fun table f v ts x l) (apply_fun table g v ts x r)
    fun_lifts (User i) ts x l r w d = enter_lifts i x l r (table.body i ts) w d
    fun_lifts (OfLib lib) ts x l r w d =
        cond_lifts l r (is_iterator lib) _ _ _ _
        (turns_lifts _ _ lib (indices lib x) (field x 0) (field x 4) l r (λ i a s l r w d. call_lifts (field x 3) (asked lib (field x 5) i a s) l r w d) w d)
        (s.on_cost l r (library_cost lib x) (library_value lib ts x) w d)

    pub apply_lifts : (v x : Val) (l r : ℕ) → l ≤ n → Near l r → R l r (apply table f v x l) (apply table g v x r)
    apply_lifts (function v ts) x l r w d = fun_lifts v ts x l r w d
    apply_lifts _ x l r w d = s.on_stuck l r w d

    pub shape_lifts : (note : Note) (t : Shape Note) (c : Context) (l r : ℕ) → l ≤ n → Near l r → R l r (node_shape table f note t c l) (node_shape table g note t c r)
    shape_lifts note (var i) c l r w d = s.on_gives _ l r w d
    shape_lifts note unit c l r w d = s.on_gives _ l r w d
    shape_lifts note (bool b) c l r w d = s.on_gives _ l r w d
    shape_lifts note (lit m) c l r w d = s.on_gives _ l r w d
    shape_lifts note (fun m args) c l r w d = s.on_gives _ l r w d
    shape_lifts note (op o (more x none)) c l r w d =
        s.on_bind l r _ _ _ _ w (e x c l r w d) (λ v a b u z. s.on_gives _ a b u z)
    shape_lifts note (op o (more x (more y none))) c l r w d =
        s.on_bind l r _ _ _ _ w (e x c l r w d) (λ v a b u z. s.on_bind a b _ _ _ _ u (e y c a b u z) (λ v a b u z. s.on_gives _ a b u z))
    shape_lifts note (op o _) c l r w d = s.on_stuck l r w d
    shape_lifts note (app x y) c l r w d =
        s.on_bind l r _ _ _ _ w (e x c l r w d) (λ v a b u z. s.on_bind a b _ _ _ _ u (e y c a b u z) (λ y a b u z. apply_lifts v y a b u z))
    shape_lifts note (lets p x y) c l r w d = s.on_bind l r _ _ _ _ w (e x c l r w d) (λ v a b u z. e y (push c v) a b u z)
    shape_lifts note (let_bang os p x y) c l r w d = s.on_bind l r _ _ _ _ w (e x c l r w d) (λ v a b u z. e y (push c v) a b u z)
    shape_lifts note (if_else q x y) c l r w d =
        s.on_bind l r _ _ _ _ w (e q c l r w d) (λ v a b u z. e (if is_true v then x else y) c a b u z)
    shape_lifts note (con m x) c l r w d =
        s.on_pay l r _ _ w d (λ a b u z. s.on_bind a b _ _ _ _ u (e x c a b u z) (λ v a b u z. s.on_gives _ a b u z))
    shape_lifts note (case_of q at p x y) c l r w d =
        s.on_bind l r _ _ _ _ w (e q c l r w d) (λ v a b u z.
        cond_lifts a b (has_name at.name v) _ _ _ _ (e x (push c (payload_in v)) a b u z) (e y (push c v) a b u z))
    shape_lifts note (esac at x) c l r w d = s.on_bind l r _ _ _ _ w (e x c l r w d) (λ v a b u z. s.on_gives _ a b u z)
    shape_lifts note (struct fs) c l r w d = all_lifts f g e fs c [] l r w d
    shape_lifts note (member x at) c l r w d = s.on_bind l r _ _ _ _ w (e x c l r w d) (λ v a b u z. s.on_gives _ a b u z)
    shape_lifts note (take_field x at p q y) c l r w d =
        s.on_bind l r _ _ _ _ w (e x c l r w d) (λ v a b u z.
        e y (push (push c (without v (position at.name (type_at x)))) (field v (position at.name (type_at x)))) a b u z)
    shape_lifts note (put x at y) c l r w d =
        s.on_bind l r _ _ _ _ w (e x c l r w d) (λ v a b u z.
        s.on_pay a b _ _ u z (λ a b u z. s.on_bind a b _ _ _ _ u (e y c a b u z) (λ v a b u z. s.on_gives _ a b u z)))
    shape_lifts note (cast x) c l r w d = e x c l r w d
    shape_lifts note (annot x arg) c l r w d = e x c l r w d

    pub node_lifts : (t : Tree Note) (c : Context) (l r : ℕ) → l ≤ n → Near l r → R l r (node table f t c l) (node table g t c r)
    node_lifts (term note shape) c l r w d = shape_lifts note shape c l r w d
