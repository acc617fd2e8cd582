-- Calls of instances are refined, by an induction on the fuel of evaluation, and so is what comes of an instance: over three laws, of the
-- library, of iterators, and of functions that a table knows.
use Rattle.std.proofs.Common.{◌≡◌, ℕ, zero, suc, ◌+◌, ◌-◌, ◌≤◌, Bool, true, false, cond, IsTrue, Option, Some, None, option_map, List, [], ◌∷◌, length, slice_get, refl, sym, ap, ◌∙◌, arith, subst as at}
use Rattle.std.proofs.lemmas.Bool.{and_parts}
use Rattle.std.specs.List.{list_all}
use Rattle.std.specs.Prelude.{if◌then◌else◌}
use Rattle.cg_base.proofs.Counts.{no_steps as never}
use Rattle.cg_base.specs.declared.fun.Fun.{Fun}
use Rattle.cg_base.specs.declared.fun.Fun.TheVariants.{User, Lib as OfLib}
use Rattle.cg_base.specs.declared.fun.Lib.{Lib}
use Rattle.cg_base.specs.declared.fun.Lib.TheVariants.{Map, Fold}
use Rattle.cg_base.specs.declared.kind.Sigil.{Sigil}
use Rattle.cg_base.specs.declared.kind.Sigil.TheVariants.{R, W}
use Rattle.cg_base.specs.Types.{Tau, arrow}
use Rattle.cg_core.specs.Kernels.{Function}
use Rattle.cg_core.specs.Terms.{Note, Tree}
use Rattle.cg_eval.proofs.Costs.{fuel_is_free, more_budget as cost_is_within}
use Rattle.cg_eval_def.specs.Evaluation as values
use Rattle.cg_eval_def.specs.Evaluation.{Run, Table, apply, call, cost_of, enter, evaluation, fuelled, iterated, only, spent, stuck, with_fuel}
use Rattle.cg_eval_def.specs.Foreigns.{cost_at, is_empty, is_taken, value_at}
use Rattle.cg_eval_laws.proofs.Checked.{has_checked_type}
use Rattle.cg_eval_laws.proofs.FirstOrder.{plain_stays}
use Rattle.cg_eval_operations.specs.Iterators.{is_iterator}
use Rattle.cg_heap.specs.Calls.{heap_of}
use Rattle.cg_heap.specs.declared.cell.Scalar.{Scalar}
use Rattle.cg_heap.specs.Reps.{HeapWorld, Holds, first_number, foot}
use Rattle.cg_heap.specs.Steps.{IsFine, Side, Step}
use Rattle.cg_heap_laws.proofs.Rising.{good_arguments}
use Rattle.cg_kinds.specs.Kinds.{is_word, subst}
use Rattle.cg_lib_value.specs.Library.{library_cost, library_value}
use Rattle.cg_mono_laws.specs.Laws.{copies_table}
use Rattle.cg_refine.proofs.Contexts.{only_foot, only_held}
use Rattle.cg_refine.proofs.Sequence.{fine_as, refined_from, same_refined}
use Rattle.cg_refine.proofs.Whole.{nodes_are_refined}
use Rattle.cg_refine.specs.Laws.{CallsRefine, MentionsHold, TermsRefine}
use Rattle.cg_refine_def.specs.Contexts.{context_foot}
use Rattle.cg_refine_def.specs.Refined.{IsGiven, IsRefined, is_clear_node, side_of}
use Rattle.cg_refine_laws.specs.Laws.{AreRefinable, InstancesAreRefined, IteratorsAreRefined, KnownFunctionsAreRefined, LibraryIsRefined, TurnsRefine, is_over, is_refinable_by, knows_at}
use Rattle.cg_typing.specs.Functions.{are_good_arguments, arg_types, asked_by, fun_type, takes_as_many}
use Rattle.cg_typing.specs.Instances.{Entry, Instance, IsDerivedBody, IsDerivedMaybe, IsEntry, as_arguments, nodes_of}
use Rattle.cg_typing.specs.Library.{given, library_type}
use Rattle.cg_typing.specs.Parts.{given_by, has_word_arrays, taken_by}
use Rattle.cg_typing.specs.Rules.{type_at}
use Rattle.cg_update.proofs.Budgets.{depth_is_free}
use Rattle.cg_update.specs.Calls.{Program, abstract, argument_of, library, types_of}
use Rattle.cg_update.specs.Machines.{is_machine}
use Rattle.cg_update.specs.Outcomes.{State, Outcome, no_result, starting, where_true}
use Rattle.cg_update.specs.Updates as updates
use Rattle.cg_update.specs.Updates.{Calls, Result, calls_source, calls_within, entered_by, given_outside, is_of_source, result_of, update, updated}
use Rattle.cg_update_laws.proofs.Held.{holds_machine}
use Rattle.cg_update_laws.proofs.Places.{IsThere, call_is, core_call, known, library_type_is, mention_holds, source_body, there}
use Rattle.cg_update_laws.specs.Laws.{world_among}
use Rattle.cg_value.specs.Foreign.{is_known_type, is_plain_type}
use Rattle.cg_value.specs.Values.{Val, function}

-- ---- types

-- a type that a table knows a function at has no type variables
known_stays : (owns : List ℕ → Bool) (given : List Tau) (t : Tau) → IsTrue (is_known_type owns t) → subst given t ≡ t
unfolding subst
known_stays owns given (arrow a b) k =
    let c = and_parts (is_plain_type owns a) _ k in let p = plain_stays owns given a c.0 in let q = plain_stays owns given b c.1 in cc
known_stays owns given _ k = never k

-- a body is derived at the type of its entry
derived_at : (functions : List Function) (from to a b : Tau) (core : Tree Note) → arrow from to ≡ arrow a b → IsDerivedBody functions from to core → IsDerivedBody functions a b core
derived_at functions from to a b core e d =
    let f : from ≡ a = cc in let g : to ≡ b = cc in
    at (λ z. IsDerivedBody functions z b core) f (at (λ z. IsDerivedBody functions from z core) g d)

-- what an iterator goes over holds words
good_is_over : (functions : List Function) (lib : Lib) (types : List Tau) → IsTrue (takes_as_many functions (OfLib lib) (length types))
    → IsTrue (are_good_arguments [] (asked_by functions (OfLib lib)) (as_arguments types)) → IsTrue (is_over lib types)
good_is_over functions Map (t ∷ types) n k = (and_parts (is_word t) _ (and_parts (has_word_arrays t) _ k).1).0
good_is_over functions Fold (t ∷ types) n k = (and_parts (is_word t) _ (and_parts (has_word_arrays t) _ k).1).0
good_is_over functions Map [] n k = absurd (cc)
good_is_over functions Fold [] n k = absurd (cc)
good_is_over functions _ types n k = refl

-- ---- what comes of a run

-- what is given for a value, and what is left
record Ended (world : HeapWorld) (s : State) (writes reads : ℕ → ℕ) (t : Tau) (n cost : ℕ) (w : Val) (q : Outcome) : Type 0 where
  left : ℕ
  same_cost : n - left ≡ cost
  given : IsGiven world s writes reads t w left q

-- where evaluation gave a value at a cost, what it is refined by did
ended : (world : HeapWorld) (s : State) (writes reads : ℕ → ℕ) (t : Tau) (table : Table) (n cost : ℕ) (w : Val) (o : values.Outcome) (q : Outcome)
    → IsRefined world s writes reads t o q → cost_of table n o ≡ Some (w, cost) → Ended world s writes reads t n cost w q
ended world s writes reads t table n cost w spent q r e = absurd (cc)
ended world s writes reads t table n cost w stuck q r e = absurd (cc)
ended world s writes reads t table n cost w (values.gives v left) q r e =
    record { left = left; same_cost = ap cost_in e; given = at (λ z. IsGiven world s writes reads t z left q) (ap (found_in w) e) r }
  where
    cost_in : Option (Val × ℕ) → ℕ
    cost_in None = cost
    cost_in (Some r) = r.1

    found_in : Val → Option (Val × ℕ) → Val
    found_in d None = d
    found_in d (Some r) = r.0

-- the fuel of a budget is enough for what evaluation gives
fuel_suffices : (table : Table) (n cost : ℕ) (f v w : Val) → evaluation table n f v ≡ Some (w, cost) → cost_of table n (apply table (with_fuel table n) f v n) ≡ Some (w, cost)
unfolding fuelled
fuel_suffices table n cost f v w e = (fuel_is_free table n n cost f v w).0 e (cost_is_within table n n cost f v w e).0

-- a step with these lists under other names
step_by : (before after : Side) (made freed all lost : List ℕ) → all ≡ made → lost ≡ freed → Step before made freed after → Step before all lost after
step_by before after made freed all lost e f z = at (λ xs. Step before xs lost after) (sym e) (at (λ ys. Step before made ys after) (sym f) z)

-- ---- calls

module _ (library_is_refined : LibraryIsRefined) (iterators_are_refined : IteratorsAreRefined) (known_functions_are_refined : KnownFunctionsAreRefined) where
  module _ (p : Program) (among : ℕ → Bool) (u : AreRefinable p among) where
    abbrev world : HeapWorld
    world = world_among p among

    abbrev table : Table
    table = copies_table p.foreign p.functions p.list p.entries

    -- an argument of a type is represented, and its footprints are fine
    abbrev H : State → Tau → List Scalar → Val → Type 0
    H s t us v = Holds world (heap_of s.store) t us v

    abbrev Fine : State → Tau → List Scalar → Type 0
    Fine s t us = IsFine (side_of s (foot (heap_of s.store) W t us) (foot (heap_of s.store) R t us))

    -- from what it reaches
    abbrev Refined : State → Tau → List Scalar → Tau → values.Outcome → Outcome → Type 0
    Refined s a us b o q = IsRefined world s (foot (heap_of s.store) W a us) (foot (heap_of s.store) R a us) b o q

    abbrev Runs : Run → Calls → Type 0
    Runs run calls = TermsRefine p among world run calls

    -- the place of a mention stands for the function
    mentions_hold : MentionsHold p among world
    mentions_hold h f args k t typed closed found chosen = mention_holds p u.instances among h f args k t typed closed found chosen

    -- ---- functions of the source

    -- a body that is derived from the argument alone is refined
    body_refines : (run : Run) (calls : Calls) → Runs run calls → (core : Tree Note) (a b : Tau) → IsDerivedBody p.functions a b core → IsTrue (list_all (is_clear_node p.list among) (nodes_of core))
        → (s : State) (ws : List Scalar) (v : Val) → H s a ws v → Fine s a ws → (left : ℕ)
        → Refined s a ws b (run core (only [] v) left) (update p calls core (ws ∷ []) s left)
    body_refines run calls runs core a b d clear s ws v k f left =
        let same : (m : Sigil) (q : ℕ) → context_foot (heap_of s.store) m (Some a ∷ []) (ws ∷ []) q ≡ foot (heap_of s.store) m a ws q = only_foot world (heap_of s.store) a ws in
        at (λ z. Refined s a ws z (run core (only [] v) left) (update p calls core (ws ∷ []) s left))
        (sym (has_checked_type p.functions [] core (Some a ∷ []) d.tree b d.derives))
        (refined_from world s (context_foot (heap_of s.store) W (Some a ∷ []) (ws ∷ [])) (context_foot (heap_of s.store) R (Some a ∷ []) (ws ∷ []))
        (foot (heap_of s.store) W a ws) (foot (heap_of s.store) R a ws) (type_at core) (run core (only [] v) left) (update p calls core (ws ∷ []) s left)
        (λ q. sym (same W q)) (λ q. sym (same R q))
        (runs (Some a ∷ []) (ws ∷ []) (v ∷ []) s (only_held world (heap_of s.store) a ws v k)
        (fine_as s (foot (heap_of s.store) W a ws) (foot (heap_of s.store) R a ws) (context_foot (heap_of s.store) W (Some a ∷ []) (ws ∷ []))
        (context_foot (heap_of s.store) R (Some a ∷ []) (ws ∷ [])) f (same W) (λ q. omega (arith, same R q)))
        d.tree (Some b) core d.derives clear left))

    -- a function that the table knows, at any type arguments
    known_refines : (run : Run) (i : ℕ) (types : List Tau) (a b : Tau) → fun_type p.functions (User i) (as_arguments types) ≡ Some (arrow a b) → IsTrue (knows_at p (slice_get p.functions i))
        → (s : State) (ws : List Scalar) (v : Val) → H s a ws v → Fine s a ws → (left : ℕ)
        → Refined s a ws b (enter table run i v left None) (abstract p b i ws s left)
    known_refines run i types a b typed knows s ws v k fine left = by_function (slice_get p.functions i) refl typed knows
      where
        given_by_table : Option Function → values.Outcome
        given_by_table o = values.pay_for (cost_at p.foreign o v) left (λ rest. values.gives (value_at p.foreign o v) rest)

        by_taken : (o : Option Function) (q : Bool) → Refined s a ws b (given_by_table o) (abstract p b i ws s left) → Refined s a ws b (cond q (given_by_table o) stuck) (abstract p b i ws s left)
        by_taken o true r = r
        by_taken o false r = tt

        by_function : (o : Option Function) → slice_get p.functions i ≡ o → option_map (λ g. subst (arg_types (as_arguments types)) g.ty.ty) o ≡ Some (arrow a b) → IsTrue (knows_at p o)
            → Refined s a ws b (enter table run i v left None) (abstract p b i ws s left)
        by_function None e t n = never n
        by_function (Some f) e t n =
            let stays = known_stays p.foreign.owns (arg_types (as_arguments types)) f.ty.ty (u.lawful.known_type f.at.name f.ty.ty (and_parts (is_empty f.vars) _ n).1) in
            let ty : f.ty.ty ≡ arrow a b = cc in
            at (λ z. Refined s a ws b (cond (is_taken p.foreign z v) (given_by_table z) stuck) (abstract p b i ws s left)) (sym e)
            (by_taken (Some f) (is_taken p.foreign (Some f) v) (known_functions_are_refined p among u.lawful u.on_heaps (known p among) i f a b s ws v e n ty k fine left))

    -- a function of the source is refined, with a body or without one
    user_refines : (run : Run) (d : ℕ) → Runs run (calls_within p d) → (k : ℕ) (x : Instance) (e : Entry) (i : ℕ) (a b : Tau)
        → among k ≡ true → slice_get p.list k ≡ Some x → slice_get p.entries k ≡ Some e → x.fun ≡ User i → e.ty ≡ arrow a b
        → (s : State) (ws : List Scalar) (v : Val) → H s a ws v → Fine s a ws → (left : ℕ)
        → Refined s a ws b (enter table run i v left (table.body i x.types)) (calls_within p (suc d) k ws s left)
    user_refines run d runs k x e i a b c l m f ty s ws v h fine left =
        by_body e.body refl (at (λ z. IsTrue (is_refinable_by p among z e.body)) f (u.refinable k x e c l m))
      where
        entry : IsEntry p.functions p.list x e
        entry = u.instances.each k x e l m

        by_body : (o : Option (Tree Note)) → e.body ≡ o → IsTrue (is_refinable_by p among (User i) o)
            → Refined s a ws b (enter table run i v left (table.body i x.types)) (calls_within p (suc d) k ws s left)
        by_body (Some core) q n =
            at (λ z. Refined s a ws b (enter table run i v left z) (calls_within p (suc d) k ws s left)) (sym (source_body p u.apart k x e i (Some core) l m f q))
            (same_refined world s (foot (heap_of s.store) W a ws) (foot (heap_of s.store) R a ws) b (run core (only [] v) left) (update p (calls_within p d) core (ws ∷ []) s left)
            (calls_within p (suc d) k ws s left) (core_call p d k x e core ws s left l m q)
            (body_refines run (calls_within p d) runs core a b
            (derived_at p.functions entry.argument entry.result a b core (sym entry.is_arrow ∙ ty) (at (IsDerivedMaybe p.functions entry.argument entry.result) q entry.derived)) n s ws v h fine left))
        by_body None q n =
            at (λ z. Refined s a ws b (enter table run i v left z) (calls_within p (suc d) k ws s left)) (sym (source_body p u.apart k x e i None l m f q))
            (same_refined world s (foot (heap_of s.store) W a ws) (foot (heap_of s.store) R a ws) b (enter table run i v left None) (abstract p b i ws s left)
            (calls_within p (suc d) k ws s left)
            (call_is p d k x e ws s left l m ∙ ap (λ o. entered_by p (calls_within p d) x e.ty o ws s left) q ∙ ap (λ g. given_outside p (calls_within p d) g x.types e.ty ws s left) f
            ∙ ap (λ z. abstract p (given_by z) i ws s left) ty)
            (known_refines run i x.types a b (at (λ g. fun_type p.functions g (as_arguments x.types) ≡ Some (arrow a b)) f (entry.is ∙ ap Some ty)) n s ws v h fine left))

    -- what iterators call is refined
    turns_refine : (run : Run) (d : ℕ) → Runs run (calls_within p d) → TurnsRefine p world table run (calls_within p (suc d))
    unfolding Holds
    turns_refine run d runs a b us ws f v s turn h k fine left =
        let r = there p among (first_number us) f (arrow a b) h.1 in
        at (λ z. Refined s a ws b (call table run z v left) (calls_source p (calls_within p (suc d)) (slice_get p.list (first_number us)) (first_number us) ws s left)) r.value
        (same_refined world s (foot (heap_of s.store) W a ws) (foot (heap_of s.store) R a ws) b (call table run (function r.instance.fun r.instance.types) v left)
        (cond (is_of_source r.instance.fun) (calls_within p (suc d) (first_number us) ws s left) no_result)
        (calls_source p (calls_within p (suc d)) (slice_get p.list (first_number us)) (first_number us) ws s left)
        (ap (λ o. calls_source p (calls_within p (suc d)) o (first_number us) ws s left) r.listed) (by_fun r r.instance.fun refl))
      where
        by_fun : (r : IsThere p among (first_number us) f (arrow a b)) (g : Fun) → r.instance.fun ≡ g
            → Refined s a ws b (call table run (function g r.instance.types) v left) (cond (is_of_source g) (calls_within p (suc d) (first_number us) ws s left) no_result)
        by_fun r (User i) e = user_refines run d runs (first_number us) r.instance r.entry i a b r.chosen r.listed r.has_entry e r.typed s ws v k fine left
        by_fun r (OfLib lib) e = tt

    -- ---- functions of the library

    -- at its own type, where the type arguments are good
    lib_refines : (run : Run) (d : ℕ) → Runs run (calls_within p d) → (lib : Lib) (types : List Tau) → IsTrue (takes_as_many p.functions (OfLib lib) (length types))
        → IsTrue (are_good_arguments [] (asked_by p.functions (OfLib lib)) (as_arguments types))
        → (s : State) (ws : List Scalar) (v : Val) → H s (taken_by (library_type lib types)) ws v → Fine s (taken_by (library_type lib types)) ws → (left : ℕ)
        → Refined s (taken_by (library_type lib types)) ws (given_by (library_type lib types)) (apply table run (function (OfLib lib) types) v left)
        (given_outside p (calls_within p (suc d)) (OfLib lib) types (library_type lib types) ws s left)
    lib_refines run d runs lib types many good s ws v h fine left = by_form (is_iterator lib) refl
      where
        by_form : (q : Bool) → is_iterator lib ≡ q
            → Refined s (taken_by (library_type lib types)) ws (given_by (library_type lib types))
            (if q then iterated table run lib v left else values.pay_for (library_cost lib v) left (λ rest. values.gives (library_value lib types v) rest))
            (cond q (updates.iterated p (calls_within p (suc d)) lib types (record { ty = taken_by (library_type lib types); scalars = ws }) s left) (library lib types ws s left))
        by_form true q =
            iterators_are_refined p world table run (calls_within p (suc d)) (turns_refine run d runs) lib types q (good_is_over p.functions lib types many good) s ws v h fine left
        by_form false q = library_is_refined world lib types s ws v (good_arguments p.functions [] lib types q many good) h fine left

    -- so at the type of its entry
    library_refines : (run : Run) (d : ℕ) → Runs run (calls_within p d) → (k : ℕ) (x : Instance) (e : Entry) (lib : Lib) (a b : Tau)
        → among k ≡ true → slice_get p.list k ≡ Some x → slice_get p.entries k ≡ Some e → x.fun ≡ OfLib lib → e.ty ≡ arrow a b
        → (s : State) (ws : List Scalar) (v : Val) → H s a ws v → Fine s a ws → (left : ℕ)
        → Refined s a ws b (apply table run (function (OfLib lib) x.types) v left) (calls_within p (suc (suc d)) k ws s left)
    library_refines run d runs k x e lib a b c l m f ty s ws v h fine left =
        by_body e.body refl (at (λ z. IsTrue (is_refinable_by p among z e.body)) f (u.refinable k x e c l m))
      where
        here : library_type lib x.types ≡ e.ty
        here = library_type_is p u.instances k x e lib l m f

        called : e.body ≡ None → calls_within p (suc (suc d)) k ws s left ≡ given_outside p (calls_within p (suc d)) (OfLib lib) x.types e.ty ws s left
        called q =
            call_is p (suc d) k x e ws s left l m ∙ ap (λ o. entered_by p (calls_within p (suc d)) x e.ty o ws s left) q
            ∙ ap (λ g. given_outside p (calls_within p (suc d)) g x.types e.ty ws s left) f

        -- at any type that is the function's
        at_type : (t : Tau) → library_type lib x.types ≡ t → H s (taken_by t) ws v → Fine s (taken_by t) ws
            → Refined s (taken_by t) ws (given_by t) (apply table run (function (OfLib lib) x.types) v left) (given_outside p (calls_within p (suc d)) (OfLib lib) x.types t ws s left)
        at_type t q = at (λ t. H s (taken_by t) ws v → Fine s (taken_by t) ws
            → Refined s (taken_by t) ws (given_by t) (apply table run (function (OfLib lib) x.types) v left) (given_outside p (calls_within p (suc d)) (OfLib lib) x.types t ws s left)) q
            (λ h fine. lib_refines run d runs lib x.types (at (λ g. IsTrue (takes_as_many p.functions g (length x.types))) f (u.many k x l))
            (at (λ g. IsTrue (are_good_arguments [] (asked_by p.functions g) (as_arguments x.types))) f (u.good k x l)) s ws v h fine left)

        by_body : (o : Option (Tree Note)) → e.body ≡ o → IsTrue (is_refinable_by p among (OfLib lib) o)
            → Refined s a ws b (apply table run (function (OfLib lib) x.types) v left) (calls_within p (suc (suc d)) k ws s left)
        by_body (Some core) q n = never n
        by_body None q n =
            same_refined world s (foot (heap_of s.store) W a ws) (foot (heap_of s.store) R a ws) b (apply table run (function (OfLib lib) x.types) v left)
            (given_outside p (calls_within p (suc d)) (OfLib lib) x.types (arrow a b) ws s left) (calls_within p (suc (suc d)) k ws s left)
            (called q ∙ ap (λ z. given_outside p (calls_within p (suc d)) (OfLib lib) x.types z ws s left) ty)
            (at_type (arrow a b) (here ∙ ty) h fine)

    -- ---- all calls

    -- an instance at a place is refined
    instance_refines : (run : Run) (d : ℕ) → Runs run (calls_within p d) → Runs run (calls_within p (suc d)) → (k : ℕ) (x : Instance) (e : Entry) (a b : Tau)
        → among k ≡ true → slice_get p.list k ≡ Some x → slice_get p.entries k ≡ Some e → e.ty ≡ arrow a b
        → (s : State) (ws : List Scalar) (v : Val) → H s a ws v → Fine s a ws → (left : ℕ)
        → Refined s a ws b (apply table run (function x.fun x.types) v left) (calls_within p (suc (suc d)) k ws s left)
    instance_refines run d runs deeper k x e a b c l m ty s ws v h fine left = by_fun x.fun refl
      where
        by_fun : (g : Fun) → x.fun ≡ g → Refined s a ws b (apply table run (function g x.types) v left) (calls_within p (suc (suc d)) k ws s left)
        by_fun (User i) f = user_refines run (suc d) deeper k x e i a b c l m f ty s ws v h fine left
        by_fun (OfLib lib) f = library_refines run d runs k x e lib a b c l m f ty s ws v h fine left

    -- so are calls
    calls_refine : (run : Run) (d : ℕ) → Runs run (calls_within p d) → Runs run (calls_within p (suc d)) → CallsRefine p among world table run (calls_within p (suc (suc d)))
    unfolding Holds
    calls_refine run d runs deeper a b us ws f v s h k fine left =
        let r = there p among (first_number us) f (arrow a b) h.1 in
        at (λ z. Refined s a ws b (apply table run z v left) (calls_within p (suc (suc d)) (first_number us) ws s left)) r.value
        (instance_refines run d runs deeper (first_number us) r.instance r.entry a b r.chosen r.listed r.has_entry r.typed s ws v k fine left)

    -- ---- evaluation with fuel

    -- evaluation is refined by updates in which calls may be nested twice as deep as it has fuel, since an iterator's turns are calls of their own
    runs_refine : (fuel depth : ℕ) → fuel + fuel ≤ depth → Runs (with_fuel table fuel) (calls_within p depth)
    unfolding with_fuel
    runs_refine zero depth e g us vs s holds fine d direction core q n left = tt
    runs_refine (suc fuel) zero e g us vs s holds fine d direction core q n left = absurd (omega (arith, e))
    runs_refine (suc fuel) (suc zero) e g us vs s holds fine d direction core q n left = absurd (omega (arith, e))
    runs_refine (suc fuel) (suc (suc depth)) e g us vs s holds fine d direction core q n left =
        nodes_are_refined p among world (known p among) mentions_hold table (with_fuel table fuel) (calls_within p (suc (suc depth))) (runs_refine fuel (suc (suc depth)) (omega (arith, e)))
        (calls_refine (with_fuel table fuel) depth (runs_refine fuel depth (omega (arith, e))) (runs_refine fuel (suc depth) (omega (arith, e))))
        g us vs s holds fine d direction core q n left

    -- what comes of an instance, where calls may be nested twice as deep as the budget
    whole_refines : (n k : ℕ) (x : Instance) (e : Entry) → slice_get p.list k ≡ Some x → slice_get p.entries k ≡ Some e → among k ≡ true
        → (s : State) (us : List Scalar) (v : Val) → H s (taken_by e.ty) us v → Fine s (taken_by e.ty) us
        → Refined s (taken_by e.ty) us (given_by e.ty) (apply table (with_fuel table n) (function x.fun x.types) v n) (calls_within p (suc (suc (n + n))) k us s n)
    whole_refines n k x e l m c s us v h fine =
        let entry = u.instances.each k x e l m in
        let ty : e.ty ≡ arrow (taken_by e.ty) (given_by e.ty) = entry.is_arrow ∙ sym (ap (λ z. arrow (taken_by z) (given_by z)) entry.is_arrow) in
        instance_refines (with_fuel table n) (n + n) (runs_refine n (n + n) (omega arith)) (runs_refine n (suc (n + n)) (omega arith)) k x e (taken_by e.ty) (given_by e.ty) c l m ty s us v h fine n

  -- ---- the law

  pub instances_are_refined : InstancesAreRefined
  unfolding updated
  instances_are_refined p among u n k cost x e us m v w l y c k0 fine ev =
      record {
        result = record { value = r.given.scalars; state = r.given.state; cost = n - r.left };
        is = ap (result_of n) (ap (λ b. where_true b (calls_within p (suc n) k us (starting m) n)) machine ∙ sym (depth_is_free p (suc (suc (n + n))) n k us m (omega arith)) ∙ r.given.is);
        same_cost = r.same_cost;
        holds = r.given.holds;
        step = step_by _ _ r.given.reached.made r.given.reached.freed r.given.state.made r.given.state.freed r.given.reached.all_made r.given.reached.all_freed r.given.reached.step;
      }
    where
      r : Ended (world_among p among) (starting m) (foot (heap_of m) W (taken_by e.ty) us) (foot (heap_of m) R (taken_by e.ty) us) (given_by e.ty) n cost w
          (calls_within p (suc (suc (n + n))) k us (starting m) n)
      r =
          ended (world_among p among) (starting m) (foot (heap_of m) W (taken_by e.ty) us) (foot (heap_of m) R (taken_by e.ty) us) (given_by e.ty)
          (copies_table p.foreign p.functions p.list p.entries) n cost w _ _ (whole_refines p among u n k x e l y c (starting m) us v k0 fine)
          (fuel_suffices (copies_table p.foreign p.functions p.list p.entries) n cost (function x.fun x.types) v w ev)

      machine : is_machine (types_of p) (argument_of (types_of p k)) us ≡ true
      machine =
          ap (λ o. is_machine (types_of p) (argument_of (option_map (λ z. z.ty) o)) us) y
          ∙ holds_machine (world_among p among) (heap_of m) (types_of p) (known p among) (taken_by e.ty) us v k0
