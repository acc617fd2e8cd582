-- The instances of the kernel are its functions, in their order, within all limits.
use Rattle.std.proofs.Common.{◌≡◌, ◌<◌, ◌≤◌, ℕ, zero, suc, ◌+◌, ◌*◌, Bool, true, ◌||◌, List, [], ◌∷◌, ◌++◌, length, map, Option, Some, None, refl, sym, ap, ◌∙◌, subst, arith, slice_get, get_or, if◌then◌else◌, append_assoc}
use Rattle.std.proofs.lemmas.List.FromFn.{length-map-range_with_len, map-range_with_len_more}
use Rattle.std.proofs.lemmas.List.Sums.{AllPass-from_list_all}
use Rattle.std.proofs.lemmas.Option.{slice_get-get_or, slice_get_within}
use Rattle.std.specs.List.{All, list_any, range_with_len}
use Rattle.cg_base.proofs.Options.{some_is}
use Rattle.cg_base.proofs.Sequences.{append_none}
use Rattle.cg_base.proofs.Truths.{or_true}
use Rattle.cg_base.specs.declared.fun.Fun.TheVariants.{User}
use Rattle.cg_core.specs.Kernels.{Function}
use Rattle.cg_core.specs.Terms.{Note, Tree}
use Rattle.cg_kinds.specs.Kinds.{subst as given}
use Rattle.cg_typing.specs.Holds.{joined, kept_at}
use Rattle.cg_typing.specs.Instances.{Instance, mentioned_in}
use Rattle.cg_typing.specs.Parts.{is_small_enough}
use Rattle.cg_typing.specs.Rules.{type_at}
use Rattle.cg_inst.proofs.SameInstance.{instance_same}
use Rattle.cg_inst.specs.Lists.{Cores, after, core_of, front_from, front_one, gone_through, HasSmallTypes, mentioned_by, mentioned_maybe, nodes_in, nodes_maybe, same_instance, with_instances}
use Rattle.cg_gen_def.specs.Kernels.{body_in, core_behind, cores, function_behind, functions, subject_in}
use Rattle.cg_gen_typing_laws.specs.Laws.{InstancesAreWithin}
use Rattle.cg_gen_typing_laws.proofs.Kernel as kernel

-- ---- the list of the functions

abbrev instance : ℕ → Instance
instance i = record { fun = User i; types = [] }

abbrev list : ℕ → List Instance
list n = map instance (range_with_len 0 n)

list_more : (n : ℕ) → list (suc n) ≡ list n ++ instance n ∷ []
list_more n = let e : suc n ≡ n + 1 = omega arith in ap list e ∙ map-range_with_len_more instance 0 n n (omega arith)

list_as_many : (n : ℕ) → length (list n) ≡ n
list_as_many n = length-map-range_with_len instance 0 n

entry : (n i : ℕ) → i < n → slice_get (list n) i ≡ Some (instance i)
entry n i lt = kernel.entry_of instance list refl list_more n i lt

-- each entry is the instance of its place
each_entry : (n i : ℕ) (x : Instance) → slice_get (list n) i ≡ Some x → (i < n) × (x ≡ instance i)
each_entry n i x e =
    let within = slice_get_within (list n) i x e in let many = list_as_many n in
    let lt : i < n = omega (arith, within, many) in
    (lt, some_is x (instance i) (sym e ∙ entry n i lt))

-- ---- the front

front_more : (k j : ℕ) (fs : List Function) (f : Function) → j ≡ k + length fs → front_from k (fs ++ f ∷ []) ≡ front_from k fs ++ front_one j f.vars
unfolding front_from
front_more k j [] f e = let same : k ≡ j = omega (arith, e) in append_none (front_one k f.vars) ∙ ap (λ i. front_one i f.vars) same
front_more k j (g ∷ fs) f e =
    ap (λ xs. front_one k g.vars ++ xs) (front_more (suc k) j fs f (omega (arith, e)))
    ∙ sym (append_assoc (front_one k g.vars) (front_from (suc k) fs) (front_one j f.vars))

no_vars : (n : ℕ) → front_one n (function_behind n).vars ≡ instance n ∷ []
unfolding function_behind
no_vars n = refl

front : (n : ℕ) → front_from 0 (functions n) ≡ list n
unfolding front_from functions
front zero = refl
front (suc n) =
    let many = kernel.functions_as_many n in
    front_more 0 n (functions n) (function_behind n) (omega (arith, many)) ∙ ap (λ xs. xs ++ front_one n (function_behind n).vars) (front n)
    ∙ ap (λ ys. list n ++ ys) (no_vars n) ∙ sym (list_more n)

-- ---- what bodies mention

found : {A : Type 0} (p : A → Bool) (xs : List A) (i : ℕ) (x : A) → slice_get xs i ≡ Some x → p x ≡ true → list_any p xs ≡ true
found p [] i x e h = absurd (cc)
found p (y ∷ xs) zero x e h = ap (λ z. p z || list_any p xs) (some_is y x e) ∙ ap (λ b. b || list_any p xs) h
found p (y ∷ xs) (suc i) x e h = or_true (p y) (list_any p xs) (found p xs i x e h)

-- an instance that is in the list isn't added
kept : (xs : List Instance) (i : ℕ) (x : Instance) → slice_get xs i ≡ Some x → with_instances xs (x ∷ []) ≡ xs
unfolding with_instances
kept xs i x e = ap (λ b. if b then xs else xs ++ x ∷ []) (found (same_instance x) xs i x e (instance_same x))

mentions_before : (before : ℕ) → mentioned_maybe [] (Some (core_behind (suc before))) ≡ instance before ∷ []
unfolding mentioned_in body_in subject_in
mentions_before before = refl

mentions_none : mentioned_maybe [] (Some (core_behind zero)) ≡ []
unfolding mentioned_in body_in subject_in
mentions_none = refl

module _ (n : ℕ) where
  abbrev cores_here : Cores
  cores_here i = kept_at (cores n) i

  core : (i : ℕ) → i < n → cores_here i ≡ Some (core_behind i)
  core i lt = ap joined (kernel.core_of n i lt)

  nothing_new : (i : ℕ) → i < n → with_instances (list n) (mentioned_maybe [] (Some (core_behind i))) ≡ list n
  unfolding with_instances
  nothing_new zero lt = ap (with_instances (list n)) mentions_none
  nothing_new (suc before) lt = ap (with_instances (list n)) (mentions_before before) ∙ kept (list n) before (instance before) (entry n before (omega (arith, lt)))

  gone_one : (i : ℕ) (x : Instance) → slice_get (list n) i ≡ Some x → with_instances (list n) (mentioned_by (functions n) cores_here x) ≡ list n
  gone_one i x e =
      let is = each_entry n i x e in
      subst (λ y. with_instances (list n) (mentioned_by (functions n) cores_here y) ≡ list n) (sym is.1)
      (ap (λ o. with_instances (list n) (mentioned_maybe [] o)) (core i is.0) ∙ nothing_new i is.0)

  gone : (i : ℕ) (o : Option Instance) → slice_get (list n) i ≡ o → gone_through (functions n) cores_here (list n) o ≡ list n
  gone i None e = refl
  gone i (Some x) e = gone_one i x e

  after_is : (k : ℕ) → after (functions n) cores_here k ≡ list n
  unfolding after
  after_is zero = front n
  after_is (suc k) =
      ap (λ xs. gone_through (functions n) cores_here xs (slice_get xs k)) (after_is k) ∙ gone k (slice_get (list n) k) refl

  -- ---- the limits

  abbrev nodes_at : Instance → List (Tree Note)
  nodes_at x = nodes_maybe (core_of cores_here x.fun)

  few_nodes : (i : ℕ) → length (nodes_maybe (Some (core_behind i))) ≤ 11
  unfolding body_in subject_in
  few_nodes zero = omega arith
  few_nodes (suc before) = omega arith

  nodes_within : (xs : List Instance) → ((i : ℕ) (x : Instance) → slice_get xs i ≡ Some x → length (nodes_at x) ≤ 11)
      → nodes_in cores_here xs ≤ 11 * length xs
  unfolding nodes_in
  nodes_within [] h = omega arith
  nodes_within (x ∷ xs) h = let a = h zero x refl in let b = nodes_within xs (λ i y e. h (suc i) y e) in omega (arith, a, b)

  -- what holds of each body holds at each entry
  at_each : (P : Option (Tree Note) → Type 0) → ((i : ℕ) → P (Some (core_behind i)))
      → (i : ℕ) (x : Instance) → slice_get (list n) i ≡ Some x → P (core_of cores_here x.fun)
  at_each P h i x e =
      let is = each_entry n i x e in
      subst (λ y. P (core_of cores_here y.fun)) (sym is.1) (subst P (sym (core i is.0)) (h i))

small : Tree Note → Bool
small t = is_small_enough (given [] (type_at t))

all_small : (i : ℕ) → HasSmallTypes [] (nodes_maybe (Some (core_behind i)))
unfolding body_in subject_in given small
all_small zero = AllPass-from_list_all small (nodes_maybe (Some (core_behind zero))) refl
all_small (suc before) = AllPass-from_list_all small (nodes_maybe (Some (core_behind (suc before)))) refl

all_at : {A : Type 0} (P : A → Type 0) (xs : List A) → ((i : ℕ) (x : A) → slice_get xs i ≡ Some x → P x) → All P xs
all_at P xs h k d lt = h k (get_or xs k d) (slice_get-get_or xs k d lt)

small_at : (n i : ℕ) (x : Instance) → slice_get (list n) i ≡ Some x → HasSmallTypes x.types (nodes_maybe (core_of (cores_here n) x.fun))
small_at n i x e =
    let is = each_entry n i x e in
    subst (λ y. HasSmallTypes y.types (nodes_maybe (core_of (cores_here n) y.fun))) (sym is.1)
    (subst (λ o. HasSmallTypes [] (nodes_maybe o)) (sym (core n i is.0)) (all_small i))

pub instances_are_within : InstancesAreWithin
instances_are_within n le =
    let many = list_as_many n in
    let nodes = nodes_within n (list n) (at_each n (λ o. length (nodes_maybe o) ≤ 11) (few_nodes n)) in
    record {
      is = record { steps = n; is = after_is n n; done = omega (arith, many) };
      few = omega (arith, many, le);
      nodes = omega (arith, many, le, nodes);
      types = all_at _ (list n) (small_at n);
    }
