-- Instances by their places in a list: what stands there as a value, what a mention of it stands for, its body over the copies, and what a
-- call of it does.
use Rattle.std.proofs.Common.{◌≡◌, ◌⊎◌, inl, inr, ℕ, zero, suc, ◌<◌, ◌≤◌, Bool, true, false, cond, IsTrue, Option, Some, None, option_map, List, [], ◌∷◌, get_or, length, map, slice_get, refl, sym, ap, ◌∙◌, arith, subst as at}
use Rattle.std.proofs.lemmas.Bool.{and_parts}
use Rattle.std.proofs.lemmas.Option.{slice_get_cases, slice_get_within}
use Rattle.std.specs.List.{list_all}
use Rattle.std.specs.Prelude.{if◌then◌else◌}
use Rattle.cg_base.proofs.Options.{later}
use Rattle.cg_base.specs.declared.fun.Fun.{Fun}
use Rattle.cg_base.specs.declared.fun.Fun.TheVariants.{User, Lib as OfLib}
use Rattle.cg_base.specs.declared.fun.Lib.{Lib}
use Rattle.cg_base.specs.Types.{Tau, arrow}
use Rattle.cg_core.specs.Kernels.{Function}
use Rattle.cg_core.specs.Terms.{Arg, Note, Tree}
use Rattle.cg_heap.specs.declared.cell.Scalar.{Scalar}
use Rattle.cg_heap.specs.Reps.{Heap, Holds}
use Rattle.cg_inst.proofs.SameInstance.{instance_is}
use Rattle.cg_inst.specs.Lists.{same_instance}
use Rattle.cg_inst_laws.proofs.Closed.{closed_stays}
use Rattle.cg_inst_laws.specs.Laws.{place_in}
use Rattle.cg_kinds.specs.Kinds.{subst}
use Rattle.cg_eval_def.specs.Evaluation.{Body}
use Rattle.cg_mono_laws.proofs.Listed.{found_at_place, is_found}
use Rattle.cg_mono_laws.specs.Laws.{body_in, copies_table}
use Rattle.cg_typing.proofs.Lists.{types_back as same_types}
use Rattle.cg_typing.specs.Functions.{arg_types, fun_type}
use Rattle.cg_typing.specs.Instances.{AreInstances, Entry, Instance, as_arguments, is_closed}
use Rattle.cg_typing.specs.Library.{library_type}
use Rattle.cg_update.specs.Calls.{Program, types_of}
use Rattle.cg_update.specs.Outcomes.{State}
use Rattle.cg_update.specs.Updates as updates
use Rattle.cg_update.specs.Updates.{calls_within, entered, entered_by, place_of, update}
use Rattle.cg_update_laws.specs.Laws.{instances_among, value_of, world_among}
use Rattle.cg_value.specs.Values.{Val, function}

-- ---- lists of instances

-- the instance stands at its place
place_is : (x : Instance) (ys : List Instance) (k : ℕ) → place_of x ys ≡ Some k → slice_get ys k ≡ Some x
unfolding place_of
place_is x [] k e = absurd (cc)
place_is x (y ∷ ys) k e = by_test (same_instance x y) refl e (place_is x ys)
  where
    by_test : (b : Bool) → same_instance x y ≡ b → cond b (Some zero) (option_map suc (place_of x ys)) ≡ Some k → ((j : ℕ) → place_of x ys ≡ Some j → slice_get ys j ≡ Some x)
        → slice_get (y ∷ ys) k ≡ Some x
    by_test true q h rest = let first : zero ≡ k = cc in at (λ i. slice_get (y ∷ ys) i ≡ Some x) first (ap Some (sym (instance_is x y q)))
    by_test false q h rest = let j = later (place_of x ys) k h in at (λ i. slice_get (y ∷ ys) i ≡ Some x) j.2 (rest j.0 j.1)

-- the type of a function is by the types of its arguments alone
same_fun_type : (functions : List Function) (f : Fun) (args : List Arg) → fun_type functions f (as_arguments (arg_types args)) ≡ fun_type functions f args
same_fun_type functions (User i) args = ap (λ ts. option_map (λ g. subst ts g.ty.ty) (slice_get functions i)) (same_types (arg_types args))
same_fun_type functions (OfLib l) args = ap (λ ts. Some (library_type l ts)) (same_types (arg_types args))

-- types without type variables stay what they are
pub all_stay : (ts : List Tau) → IsTrue (list_all is_closed ts) → map (subst []) ts ≡ ts
all_stay [] c = refl
all_stay (t ∷ ts) c = let b = and_parts (is_closed t) _ c in let p = closed_stays [] t b.0 in let q = all_stay ts b.1 in cc

-- ---- values of functions

-- an instance that stands at a place among some
pub record IsThere (p : Program) (among : ℕ → Bool) (k : ℕ) (f : Val) (t : Tau) : Type 0 where
  pub instance : Instance
  pub entry : Entry
  pub chosen : among k ≡ true
  pub listed : slice_get p.list k ≡ Some instance
  pub has_entry : slice_get p.entries k ≡ Some entry
  pub value : function instance.fun instance.types ≡ f
  pub typed : entry.ty ≡ t

-- what is told of a function that there is
abbrev value_in : Val → Option (Val × Tau) → Val
value_in v None = v
value_in v (Some r) = r.0

abbrev type_in : Tau → Option (Val × Tau) → Tau
type_in t None = t
type_in t (Some r) = r.1

pub there : (p : Program) (among : ℕ → Bool) (k : ℕ) (f : Val) (t : Tau) → instances_among p among k ≡ Some (f, t) → IsThere p among k f t
there p among k f t e = by_all (among k) (slice_get p.list k) (slice_get p.entries k) refl refl refl e
  where
    by_all : (b : Bool) (o : Option Instance) (q : Option Entry) → among k ≡ b → slice_get p.list k ≡ o → slice_get p.entries k ≡ q → (if b then value_of o q else None) ≡ Some (f, t) → IsThere p among k f t
    by_all true (Some x) (Some y) c l m h = record { instance = x; entry = y; chosen = c; listed = l; has_entry = m; value = ap (value_in f) h; typed = ap (type_in t) h }
    by_all true (Some x) None c l m h = absurd (cc)
    by_all true None q c l m h = absurd (cc)
    by_all false o q c l m h = absurd (cc)

-- so its type is known
pub known : (p : Program) (among : ℕ → Bool) (k : ℕ) (v : Val) (t : Tau) → instances_among p among k ≡ Some (v, t) → types_of p k ≡ Some t
known p among k v t e = let r = there p among k v t e in ap (option_map (λ y. y.ty)) r.has_entry ∙ ap Some r.typed

-- ---- mentions and bodies

module _ (p : Program) (instances : AreInstances p.functions p.list p.entries) where
  -- the place of a mention stands for the function
  pub mention_holds : (among : ℕ → Bool) (h : Heap) (f : Fun) (args : List Arg) (k : ℕ) (t : Tau) → fun_type p.functions f args ≡ Some t → IsTrue (list_all is_closed (arg_types args))
      → place_of (record { fun = f; types = arg_types args }) p.list ≡ Some k → among k ≡ true
      → Holds (world_among p among) h t (updates.number k) (function f (map (subst []) (arg_types args)))
  unfolding Holds
  mention_holds among h f args k t typed closed found chosen = by_entry (slice_get_cases p.entries k).1
    where
      instance : Instance
      instance = record { fun = f; types = arg_types args }

      listed : slice_get p.list k ≡ Some instance
      listed = place_is instance p.list k found

      by_entry : ((e : Entry) × (k < length p.entries) × (slice_get p.entries k ≡ Some e) × (get_or p.entries k e ≡ e)) ⊎ ((length p.entries ≤ k) × (slice_get p.entries k ≡ None))
          → Holds (world_among p among) h t (updates.number k) (function f (map (subst []) (arg_types args)))
      by_entry (inl q) =
          let entry = instances.each k instance q.0 listed q.2 in
          let type_is : Some q.0.ty ≡ Some t = sym entry.is ∙ same_fun_type p.functions f args ∙ typed in
          let ty_is : q.0.ty ≡ t = cc in
          let arrow_is : q.0.ty ≡ arrow entry.argument entry.result = entry.is_arrow in
          at (λ z. Holds (world_among p among) h z (updates.number k) (function f (map (subst []) (arg_types args)))) (sym arrow_is ∙ ty_is) (
            refl,
            ap (λ b. if b then value_of (slice_get p.list k) (slice_get p.entries k) else None) chosen ∙ ap (λ o. value_of o (slice_get p.entries k)) listed ∙ ap (value_of (Some instance)) q.2
                ∙ ap (λ ts. Some (function f ts, q.0.ty)) (sym (all_stay (arg_types args) closed)) ∙ ap (λ z. Some (function f (map (subst []) (arg_types args)), z)) arrow_is,
          )
      by_entry (inr q) = let within = slice_get_within p.list k instance listed in let many = instances.as_many in absurd (omega (arith, within, many, q.0))

-- a body in which no type variable is left
abbrev pub as_body : Option (Tree Note) → Option Body
as_body o = option_map (λ c. record { term = c; types = [] }) o

-- where no instance stands twice, that of a function of the source has its own body over the copies
pub source_body : (p : Program) → ((i j : ℕ) (x : Instance) → slice_get p.list i ≡ Some x → slice_get p.list j ≡ Some x → i ≡ j)
    → (k : ℕ) (x : Instance) (e : Entry) (i : ℕ) (o : Option (Tree Note)) → slice_get p.list k ≡ Some x → slice_get p.entries k ≡ Some e → x.fun ≡ User i → e.body ≡ o
    → (copies_table p.foreign p.functions p.list p.entries).body i x.types ≡ as_body o
source_body p apart k x e i o l m f b =
    let same : record { fun = User i; types = x.types } ≡ x = ap (λ g. record { fun = g; types = x.types }) (sym f) in
    let place : place_in p.list x ≡ k = apart (place_in p.list x) k x (found_at_place p.list x (is_found p.list k x l)) l in
    ap (λ z. as_body (body_in (slice_get p.entries (place_in p.list z)))) same ∙ ap (λ z. as_body (body_in (slice_get p.entries z))) place ∙ ap (λ z. as_body (body_in z)) m ∙ ap as_body b

-- ---- calls

-- what a call of an instance does
pub call_is : (p : Program) (d k : ℕ) (x : Instance) (e : Entry) (ws : List Scalar) (s : State) (left : ℕ) → slice_get p.list k ≡ Some x → slice_get p.entries k ≡ Some e
    → calls_within p (suc d) k ws s left ≡ entered_by p (calls_within p d) x e.ty e.body ws s left
unfolding calls_within
call_is p d k x e ws s left l m = ap (λ o. entered p (calls_within p d) o (slice_get p.entries k) ws s left) l ∙ ap (λ o. entered p (calls_within p d) (Some x) o ws s left) m

-- so where it has a body
pub core_call : (p : Program) (d k : ℕ) (x : Instance) (e : Entry) (core : Tree Note) (ws : List Scalar) (s : State) (left : ℕ) → slice_get p.list k ≡ Some x → slice_get p.entries k ≡ Some e
    → e.body ≡ Some core → calls_within p (suc d) k ws s left ≡ update p (calls_within p d) core (ws ∷ []) s left
core_call p d k x e core ws s left l m b = call_is p d k x e ws s left l m ∙ ap (λ o. entered_by p (calls_within p d) x e.ty o ws s left) b

-- the type of an instance of the library is that of its function
pub library_type_is : (p : Program) → AreInstances p.functions p.list p.entries → (k : ℕ) (x : Instance) (e : Entry) (lib : Lib) → slice_get p.list k ≡ Some x → slice_get p.entries k ≡ Some e
    → x.fun ≡ OfLib lib → library_type lib x.types ≡ e.ty
library_type_is p instances k x e lib l m f =
    same (fun_type p.functions x.fun (as_arguments x.types)) (instances.each k x e l m).is
    (ap (λ ts. Some (library_type lib ts)) (sym (same_types x.types)) ∙ ap (λ g. fun_type p.functions g (as_arguments x.types)) (sym f))
  where
    same : (z : Option Tau) → z ≡ Some e.ty → Some (library_type lib x.types) ≡ z → library_type lib x.types ≡ e.ty
    same z q r = cc
