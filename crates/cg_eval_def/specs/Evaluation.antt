-- Evaluation of every form: what a term gives on values, and what that costs (the paper's value semantics, section 3; docs/LANGUAGE.md,
-- "Evaluation"). A budget is handed on from part to part: each node takes 1 of it. Nothing here has a heap or a stack.
use Rattle.std.specs.Prelude.{◌≡◌, ℕ, zero, suc, ◌-◌, Bool, List, [], ◌∷◌, ◌++◌, cond, map, nat_lt, Option, Some, None, get_or, if◌then◌else◌}
use Rattle.cg_base.specs.declared.fun.Fun.{Fun}
use Rattle.cg_base.specs.declared.fun.Fun.TheVariants.{User, Lib as OfLib}
use Rattle.cg_base.specs.declared.fun.Lib.{Lib}
use Rattle.cg_base.specs.Types.{Tau}
use Rattle.cg_core.specs.Terms.{Note, Tree, term, Shape, var, unit, bool, lit, fun, op, app, lets, let_bang, if_else, con, case_of, esac, struct, member, take_field, put, cast, annot, none, more, Named, end, field as named}
use Rattle.cg_kinds.specs.Kinds.{subst}
use Rattle.cg_lib_value.specs.Library.{library_cost, library_value}
use Rattle.cg_eval_operations.specs.Iterators.{asked, carried, changed, ended, indices, is_iterator, stops}
use Rattle.cg_eval_operations.specs.Operators.{literal, operated, operated_both, truth}
use Rattle.cg_eval_operations.specs.Positions.{position}
use Rattle.cg_typing.specs.Functions.{arg_types}
use Rattle.cg_typing.specs.Rules.{type_at}
use Rattle.cg_value.specs.Forms.{field, has_name, is_true, payload_in, with_field, without}
use Rattle.cg_value.specs.Values.{Val, number, nothing, function, chosen, parts, gone, to_vals}

-- what comes of a budget: it was not enough, or something was asked for that has no meaning, or a value with what is left
pub data Outcome : Type 0 where
  spent : Outcome
  stuck : Outcome
  gives : Val → ℕ → Outcome

-- an outcome, and then the rest
abbrev pub bind : Outcome → (Val → ℕ → Outcome) → Outcome
bind spent rest = spent
bind stuck rest = stuck
bind (gives v left) rest = rest v left

-- 1 of the budget, and then the rest
abbrev pub pay : ℕ → (ℕ → Outcome) → Outcome
pay zero rest = spent
pay (suc left) rest = rest left

-- so much of the budget, and then the rest
abbrev pub pay_for : ℕ → ℕ → (ℕ → Outcome) → Outcome
pay_for cost left rest = cond (nat_lt left cost) spent (rest (left - cost))

-- a body, and the types that stand for its type variables
pub record Body : Type 0 where
  pub term : Tree Note
  pub types : List Tau

-- The functions of a source or of a list of instances: the body of a function at type arguments, or for an abstract function what it
-- takes, what it costs and what it gives.
pub record Table : Type 0 where
  pub body : ℕ → List Tau → Option Body
  pub takes : ℕ → Val → Bool
  pub cost : ℕ → Val → ℕ
  pub value : ℕ → Val → Val

-- what the type variables and the variables of a body stand for
pub record Context : Type 0 where
  pub types : List Tau
  pub values : List Val

-- the context of a body: the types that stand for its type variables, and its argument alone
abbrev pub only : List Tau → Val → Context
only types x = record { types = types; values = x ∷ [] }

-- one more variable
abbrev pub push : Context → Val → Context
push c v = record { types = c.types; values = c.values ++ v ∷ [] }

-- Turns, each of which takes 1 beside its function's body.
unfoldable pub turns : (ℕ → Val → Val → ℕ → Outcome) → Lib → List ℕ → Val → Val → ℕ → Outcome
turns turn lib [] a s left = gives (ended lib a s) left
turns turn lib (i ∷ is) a s left =
    pay left (λ paid. bind (turn i a s paid) (λ v rest. if stops lib v then gives v rest else turns turn lib is (changed lib i a v) (carried lib v) rest))

-- Evaluation, where `run` is the evaluation of parts and of bodies.
abbrev pub Run : Type 0
Run = Tree Note → Context → ℕ → Outcome

-- the fields of a record, each of which takes 1 beside its nodes
unfoldable pub all_of : Run → Named Note → Context → List Val → ℕ → Outcome
all_of run end c vs left = gives (parts (to_vals vs)) left
all_of run (named x t fs) c vs left = pay left (λ paid. bind (run t c paid) (λ v rest. all_of run fs c (vs ++ v ∷ []) rest))

module _ (table : Table) where
  -- a call of a function of the source, by its body or by the table
  abbrev pub enter : Run → ℕ → Val → ℕ → Option Body → Outcome
  enter run i x left (Some body) = run body.term (only body.types x) left
  enter run i x left None =
      cond (table.takes i x) (pay_for (table.cost i x) left (λ rest. gives (table.value i x) rest)) stuck

  -- a call of what an iterator calls: a function of the source
  abbrev pub call : Run → Val → Val → ℕ → Outcome
  call run (function (User i) types) x left = enter run i x left (table.body i types)
  call run _ x left = stuck

  -- the turns of an iterator over its argument
  abbrev pub iterated : Run → Lib → Val → ℕ → Outcome
  iterated run lib x left =
      turns (λ i a s rest. call run (field x 3) (asked lib (field x 5) i a s) rest) lib (indices lib x) (field x 0) (field x 4) left

  -- A call costs nothing beside the nodes of the body.
  abbrev pub apply_fun : Run → Fun → List Tau → Val → ℕ → Outcome
  apply_fun run (User i) types x left = enter run i x left (table.body i types)
  apply_fun run (OfLib lib) types x left =
      if is_iterator lib then iterated run lib x left
      else pay_for (library_cost lib x) left (λ rest. gives (library_value lib types x) rest)

  abbrev pub apply : Run → Val → Val → ℕ → Outcome
  apply run (function f types) x left = apply_fun run f types x left
  apply run _ x left = stuck

  -- One node, whose type is noted, after its own 1 is paid.
  abbrev pub node_shape : Run → Note → Shape Note → Context → ℕ → Outcome
  node_shape run note (var i) c left = gives (get_or c.values i gone) left
  node_shape run note unit c left = gives nothing left
  node_shape run note (bool b) c left = gives (number (truth b)) left
  node_shape run note (lit n) c left = gives (literal n) left
  node_shape run note (fun f args) c left = gives (function f (map (subst c.types) (arg_types args))) left
  node_shape run note (op o (more a none)) c left = bind (run a c left) (λ v rest. gives (operated o (type_at a) v) rest)
  node_shape run note (op o (more a (more b none))) c left =
      bind (run a c left) (λ v rest. bind (run b c rest) (λ w last. gives (operated_both o (type_at a) v w) last))
  node_shape run note (op o _) c left = stuck
  node_shape run note (app f x) c left = bind (run f c left) (λ v rest. bind (run x c rest) (λ w last. apply run v w last))
  node_shape run note (lets binder e k) c left = bind (run e c left) (λ v rest. run k (push c v) rest)
  node_shape run note (let_bang os binder e k) c left = bind (run e c left) (λ v rest. run k (push c v) rest)
  node_shape run note (if_else e a b) c left = bind (run e c left) (λ v rest. run (if is_true v then a else b) c rest)
  node_shape run note (con x e) c left = pay left (λ paid. bind (run e c paid) (λ v rest. gives (chosen x v) rest))
  node_shape run note (case_of e at binder a b) c left =
      bind (run e c left) (λ v rest. if has_name at.name v then run a (push c (payload_in v)) rest else run b (push c v) rest)
  node_shape run note (esac at e) c left = bind (run e c left) (λ v rest. gives (payload_in v) rest)
  node_shape run note (struct fs) c left = all_of run fs c [] left
  node_shape run note (member e at) c left = bind (run e c left) (λ v rest. gives (field v (position at.name (type_at e))) rest)
  node_shape run note (take_field e at p q k) c left =
      bind (run e c left) (λ v rest. run k (push (push c (without v (position at.name (type_at e)))) (field v (position at.name (type_at e)))) rest)
  node_shape run note (put e at x) c left =
      bind (run e c left) (λ v rest. pay rest (λ paid. bind (run x c paid) (λ w last. gives (with_field v (position at.name (type_at e)) w) last)))
  node_shape run note (cast e) c left = run e c left
  node_shape run note (annot e arg) c left = run e c left

  abbrev pub node : Run → Run
  node run (term note shape) c left = node_shape run note shape c left

  -- Evaluation with fuel: each node takes 1 of the budget, and of the fuel each level of nodes does.
  unfoldable pub with_fuel : ℕ → Run
  with_fuel zero t c left = spent
  with_fuel (suc fuel) t c left = pay left (λ rest. node (with_fuel fuel) t c rest)

  -- Evaluation. As much fuel as budget is always enough, since each level costs 1.
  unfoldable pub evaluate : Run
  evaluate t c left = with_fuel left t c left

  -- the result and its cost, where the budget was n
  abbrev pub cost_of : ℕ → Outcome → Option (Val × ℕ)
  cost_of n spent = None
  cost_of n stuck = None
  cost_of n (gives v left) = Some (v, n - left)

  -- what comes of a function, a value and a budget of n
  abbrev pub outcome : ℕ → Val → Val → Outcome
  outcome n f x = apply evaluate f x n

  -- What a function gives on a value, and the cost, where that is at most n; else none.
  unfoldable pub evaluation : ℕ → Val → Val → Option (Val × ℕ)
  evaluation n f x = cost_of n (outcome n f x)

  -- A budget of n is not enough for a function and a value: it is spent before there is a value, and nothing is asked for that
  -- has no meaning.
  pub record IsSpent (n : ℕ) (f x : Val) : Type 0 where
    pub out : outcome n f x ≡ spent
    pub none : evaluation n f x ≡ None

  -- the same with so much fuel
  unfoldable pub fuelled : ℕ → ℕ → Val → Val → Option (Val × ℕ)
  fuelled fuel n f x = cost_of n (apply (with_fuel fuel) f x n)
