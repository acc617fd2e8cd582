-- The update semantics: what an instance gives on scalars and a heap that is written in place, and what that costs (the paper's update
-- semantics, section 3; docs/LANGUAGE.md, "Update semantics"). A budget is handed on from part to part as in evaluation, and each node takes 1
-- of it. There is no result where the budget is spent, where what a node gives or reads isn't a machine value of its type, or where a cell
-- that is used isn't there or is of another form.
use Rattle.std.specs.Prelude.{ℕ, zero, suc, ◌-◌, Bool, true, false, cond, nat_eq, List, [], ◌∷◌, ◌++◌, get_or, slice_get, Option, Some, None, if◌then◌else◌}
use Rattle.std.specs.Option.{option_map}
use Rattle.cg_base.specs.declared.fun.Fun.{Fun}
use Rattle.cg_base.specs.declared.fun.Fun.TheVariants.{User, Lib as OfLib}
use Rattle.cg_base.specs.declared.fun.Lib.{Lib}
use Rattle.cg_base.specs.declared.kind.Sigil.{Sigil}
use Rattle.cg_base.specs.declared.kind.Sigil.TheVariants.{R, W, U}
use Rattle.cg_base.specs.Types.{Tau, fields}
use Rattle.cg_core.specs.declared.op.Op.{Op}
use Rattle.cg_core.specs.Terms.{Note, Tree, term, Shape, var, unit, bool, lit, fun, op, app, lets, let_bang, if_else, con, case_of, esac, struct, member, take_field, put, cast, annot, Trees, none, more, Named, end, field as named}
use Rattle.cg_heap.specs.declared.cell.Cell.{Cell}
use Rattle.cg_heap.specs.declared.cell.Cell.TheVariants.{Slots}
use Rattle.cg_heap.specs.declared.cell.Scalar.{Scalar}
use Rattle.cg_heap.specs.declared.cell.Scalar.TheVariants.{Word}
use Rattle.cg_heap.specs.Reps.{first_address, first_number, tail}
use Rattle.cg_heap.specs.Stored.{Stored, cell_at, changed}
use Rattle.cg_inst.specs.Lists.{same_instance}
use Rattle.cg_eval_operations.specs.Iterators.{is_iterator}
use Rattle.cg_eval_operations.specs.Operators.{on_one, on_two, truth, width}
use Rattle.cg_eval_operations.specs.Positions.{position}
use Rattle.cg_typing.specs.Functions.{arg_types}
use Rattle.cg_typing.specs.Instances.{Entry, Instance}
use Rattle.cg_typing.specs.Parts.{given_by, taken_by}
use Rattle.cg_typing.specs.Rules.{type_at}
use Rattle.cg_update.specs.Calls.{Program, abstract, argument_of, library, types_of}
use Rattle.cg_update.specs.Machines.{is_machine, part_at, with_part_at}
use Rattle.cg_update.specs.Outcomes.{State, starting, with_store, Outcome, no_result, gives, bind, on, where_true, pay}
use Rattle.cg_update.specs.Turns.{Argument, alternatives_in, chosen_in, field_type, fields_in, has_array, indices, place_in, turns, field_in}

-- ---- scalars

-- a literal
abbrev pub literal : Option ℕ → List Scalar
literal None = []
literal (Some n) = Word n ∷ []

abbrev pub number : ℕ → List Scalar
number n = Word n ∷ []

-- where an instance stands in a list
unfoldable pub place_of : Instance → List Instance → Option ℕ
place_of x [] = None
place_of x (y ∷ ys) = if same_instance x y then Some zero else option_map suc (place_of x ys)

-- ---- records

-- a record's scalars in their own row or in a cell
abbrev pub cell_slots : Option Cell → Option (List Scalar)
cell_slots (Some (Slots us)) = Some us
cell_slots c = None

abbrev pub sigil_of : Tau → Sigil
sigil_of (fields ps sigil) = sigil
sigil_of t = U

-- where the fields of a record stand
abbrev pub row_of : Sigil → List Scalar → Stored → Option (List Scalar)
row_of U us m = Some us
row_of R us m = cell_slots (cell_at m (first_address us))
row_of W us m = cell_slots (cell_at m (first_address us))

-- a record whose fields stand in this row from now on
abbrev pub with_row : Sigil → List Scalar → List Scalar → State → ℕ → Outcome
with_row U us row s left = gives row s left
with_row R us row s left = gives us (with_store (changed (λ c. Some (Slots row)) (first_address us) s.store) s) left
with_row W us row s left = gives us (with_store (changed (λ c. Some (Slots row)) (first_address us) s.store) s) left

-- ---- what is run

-- the scalars of the variables of a body
abbrev pub Variables : Type 0
Variables = List (List Scalar)

-- a function of the source
abbrev pub is_of_source : Fun → Bool
is_of_source (User i) = true
is_of_source (OfLib lib) = false

-- calls of instances, by their places
abbrev pub Calls : Type 0
Calls = ℕ → List Scalar → State → ℕ → Outcome

module _ (p : Program) where
  -- what is given has to be a machine value of its type
  abbrev pub formed : Tau → Outcome → Outcome
  formed t o = bind o (λ us s left. where_true (is_machine (types_of p) t us) (gives us s left))

  -- a field of a record, where it is there and a machine value of its type
  abbrev pub read : Tau → ℕ → List Scalar → State → (List Scalar → Outcome) → Outcome
  read t i us s rest =
      on (row_of (sigil_of t) us s.store) (λ row. on (part_at i (fields_in t) row) (λ ws. where_true (is_machine (types_of p) (field_type t i) ws) (rest ws)))

  -- a record with another value for a field
  abbrev pub write : Tau → ℕ → List Scalar → List Scalar → State → ℕ → Outcome
  write t i us ws s left = on (row_of (sigil_of t) us s.store) (λ row. on (with_part_at i (fields_in t) ws row) (λ after. with_row (sigil_of t) us after s left))

  -- ---- terms

  module _ (calls : Calls) where
    unfoldable mutual
      -- A term: each node takes 1, and gives a machine value of its type.
      pub update : Tree Note → Variables → State → ℕ → Outcome
      update (term note shape) vs s left = pay left (λ rest. formed note.ty (update_shape note.ty shape vs s rest))

      -- one node of this type, after its own 1 is paid
      pub update_shape : Tau → Shape Note → Variables → State → ℕ → Outcome
      update_shape t (var i) vs s left = gives (get_or vs i []) s left
      update_shape t unit vs s left = gives (number 0) s left
      update_shape t (bool b) vs s left = gives (number (truth b)) s left
      update_shape t (lit n) vs s left = gives (literal n) s left
      update_shape t (fun f args) vs s left = on (place_of (record { fun = f; types = arg_types args }) p.list) (λ k. gives (number k) s left)
      update_shape t (op o ts) vs s left = operated o ts vs s left
      update_shape t (app f x) vs s left = bind (update f vs s left) (λ us s' rest. bind (update x vs s' rest) (λ ws t last. calls (first_number us) ws t last))
      update_shape t (lets binder e k) vs s left = bind (update e vs s left) (λ us t rest. update k (vs ++ us ∷ []) t rest)
      update_shape t (let_bang os binder e k) vs s left = bind (update e vs s left) (λ us t rest. update k (vs ++ us ∷ []) t rest)
      update_shape t (if_else e a b) vs s left =
          bind (update e vs s left) (λ us t rest. cond (nat_eq (first_number us) 0) (update b vs t rest) (update a vs t rest))
      update_shape t (con x e) vs s left = pay left (λ paid. bind (update e vs s paid) (λ us s' rest. gives (chosen_in x t us) s' rest))
      update_shape t (case_of e at binder a b) vs s left =
          bind (update e vs s left) (λ us t rest.
          cond (nat_eq (first_number us) (place_in at.name (type_at e)))
          (on (part_at (place_in at.name (type_at e)) (alternatives_in (type_at e)) (tail us)) (λ ws. update a (vs ++ ws ∷ []) t rest))
          (update b (vs ++ us ∷ []) t rest))
      update_shape t (esac at e) vs s left =
          bind (update e vs s left) (λ us t rest. on (part_at (place_in at.name (type_at e)) (alternatives_in (type_at e)) (tail us)) (λ ws. gives ws t rest))
      update_shape t (struct fs) vs s left = update_fields fs vs [] s left
      update_shape t (member e at) vs s left =
          bind (update e vs s left) (λ us t rest. read (type_at e) (position at.name (type_at e)) us t (λ ws. gives ws t rest))
      update_shape t (take_field e at x y k) vs s left =
          bind (update e vs s left) (λ us t rest. read (type_at e) (position at.name (type_at e)) us t (λ ws. update k (vs ++ us ∷ ws ∷ []) t rest))
      update_shape t (put e at x) vs s left =
          bind (update e vs s left) (λ us s' rest. pay rest (λ paid. bind (update x vs s' paid) (λ ws t last. write (type_at e) (position at.name (type_at e)) us ws t last)))
      update_shape t (cast e) vs s left = update e vs s left
      update_shape t (annot e arg) vs s left = update e vs s left

      -- operators, on one operand and on two
      pub operated : Op → Trees Note → Variables → State → ℕ → Outcome
      operated o (more a none) vs s left = bind (update a vs s left) (λ us t rest. gives (number (on_one o (width (type_at a)) (first_number us))) t rest)
      operated o (more a (more b none)) vs s left =
          bind (update a vs s left) (λ us s' rest. bind (update b vs s' rest) (λ ws t last.
          gives (number (on_two o (width (type_at a)) (first_number us) (first_number ws))) t last))
      operated o ts vs s left = no_result

      -- the fields of a record, each of which takes 1 beside its nodes, behind those that are there
      pub update_fields : Named Note → Variables → List Scalar → State → ℕ → Outcome
      update_fields end vs row s left = gives row s left
      update_fields (named x e fs) vs row s left =
          pay left (λ paid. bind (update e vs s paid) (λ us t rest. update_fields fs vs (row ++ us) t rest))

    -- ---- instances

    -- what an iterator calls: a function of the source
    abbrev pub calls_source : Option Instance → ℕ → List Scalar → State → ℕ → Outcome
    calls_source None k us s left = no_result
    calls_source (Some x) k us s left = cond (is_of_source x.fun) (calls k us s left) no_result

    -- an iterator at type arguments, on an argument
    abbrev pub iterated : Lib → List Tau → Argument → State → ℕ → Outcome
    iterated lib types x s left =
        where_true (has_array lib types x s.store)
        (turns (calls_source (slice_get p.list (first_number (field_in x 3))) (first_number (field_in x 3))) lib types x (indices lib x s.store) (field_in x 4) s left)

    -- an instance without a body, of an arrow type, of a function
    abbrev pub given_outside : Fun → List Tau → Tau → List Scalar → State → ℕ → Outcome
    given_outside (User i) types t us s left = abstract p (given_by t) i us s left
    given_outside (OfLib lib) types t us s left =
        cond (is_iterator lib) (iterated lib types (record { ty = taken_by t; scalars = us }) s left) (library lib types us s left)

    -- its body in the context of its argument, where it has one
    abbrev pub entered_by : Instance → Tau → Option (Tree Note) → List Scalar → State → ℕ → Outcome
    entered_by x t (Some core) us s left = update core (us ∷ []) s left
    entered_by x t None us s left = given_outside x.fun x.types t us s left

    -- an instance, where there is one
    abbrev pub entered : Option Instance → Option Entry → List Scalar → State → ℕ → Outcome
    entered (Some x) (Some e) us s left = entered_by x e.ty e.body us s left
    entered x e us s left = no_result

  -- Calls nested at most so deep. A call costs nothing beside the nodes of a body.
  unfoldable pub calls_within : ℕ → Calls
  calls_within zero k us s left = no_result
  calls_within (suc depth) k us s left = entered (calls_within depth) (slice_get p.list k) (slice_get p.entries k) us s left

  -- What comes of an instance and an argument with a budget of n. Each call that is nested has at least one node more behind it, so that a
  -- depth of n and one is always enough.
  abbrev pub outcome : ℕ → ℕ → List Scalar → Stored → Outcome
  outcome n k us m = where_true (is_machine (types_of p) (argument_of (types_of p k)) us) (calls_within (suc n) k us (starting m) n)

-- what is given: scalars, the state behind it, and the cost
pub record Result : Type 0 where
  pub value : List Scalar
  pub state : State
  pub cost : ℕ

abbrev pub result_of : ℕ → Outcome → Option Result
result_of n no_result = None
result_of n (gives us s left) = Some (record { value = us; state = s; cost = n - left })

-- What an instance gives on an argument and a heap, and the cost, where that is at most n; else none.
unfoldable pub updated : Program → ℕ → ℕ → List Scalar → Stored → Option Result
updated p n k us m = result_of n (outcome p n k us m)
