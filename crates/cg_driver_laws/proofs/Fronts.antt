-- The functions without type variables have instances in the list of a source.
use Rattle.std.proofs.Common.{◌≡◌, ℕ, zero, suc, ◌+◌, Some, None, Option, List, [], ◌∷◌, ◌++◌, slice_get, refl, sym, ap, ◌∙◌, subst, arith}
use Rattle.std.specs.List.{list_any}
use Rattle.std.specs.Prelude.{if◌then◌else◌}
use Rattle.cg_base.specs.declared.fun.Fun.TheVariants.{User}
use Rattle.cg_base.specs.declared.kind.Bound.{Bound}
use Rattle.cg_core.specs.Kernels.{Function}
use Rattle.cg_inst.proofs.Names.{by_cases}
use Rattle.cg_inst.specs.Lists.{Cores, IsList, after, front_from, front_one, gone_through, mentioned_by, same_instance, with_instance, with_instances}
use Rattle.cg_typing.specs.Instances.{Instance, IsIn}

-- ---- the front

-- an instance behind the first function's
behind_one : (k : ℕ) (vars : List Bound) (xs : List Instance) (x : Instance) → IsIn xs x → IsIn (front_one k vars ++ xs) x
behind_one k [] xs x h = record { place = suc h.place; there = h.there }
behind_one k (b ∷ vars) xs x h = h

-- a function without type variables has its instance there
front_has : (k : ℕ) (fs : List Function) (i : ℕ) (f : Function) → slice_get fs i ≡ Some f → f.vars ≡ [] → IsIn (front_from k fs) (record { fun = User (k + i); types = [] })
unfolding front_from
front_has k [] i f h none = absurd (cc)
front_has k (g ∷ fs) zero f h none =
    let same : g ≡ f = cc in let e : k ≡ k + zero = omega arith in
    subst (λ z. IsIn (front_one k g.vars ++ front_from (suc k) fs) (record { fun = User z; types = [] })) e
    (subst (λ vars. IsIn (front_one k vars ++ front_from (suc k) fs) (record { fun = User k; types = [] })) (sym (ap (λ (z : Function). z.vars) same ∙ none)) (record { place = 0; there = refl }))
front_has k (g ∷ fs) (suc i) f h none =
    let e : suc k + i ≡ k + suc i = omega arith in
    subst (λ z. IsIn (front_one k g.vars ++ front_from (suc k) fs) (record { fun = User z; types = [] })) e
    (behind_one k g.vars (front_from (suc k) fs) (record { fun = User (suc k + i); types = [] }) (front_has (suc k) fs i f h none))

-- ---- it stays

-- what stands in a list stands there with more behind it
stays_before : (xs ys : List Instance) (i : ℕ) (x : Instance) → slice_get xs i ≡ Some x → slice_get (xs ++ ys) i ≡ Some x
stays_before [] ys i x e = absurd (cc)
stays_before (y ∷ xs) ys zero x e = e
stays_before (y ∷ xs) ys (suc i) x e = stays_before xs ys i x e

stays_with : (known xs : List Instance) (i : ℕ) (x : Instance) → slice_get known i ≡ Some x → slice_get (with_instances known xs) i ≡ Some x
unfolding with_instances
stays_with known [] i x e = e
stays_with known (y ∷ xs) i x e =
    stays_with (with_instance known y) xs i x
    (by_cases (λ b. slice_get (if b then known else known ++ y ∷ []) i ≡ Some x) (list_any (same_instance y) known) (λ _. e) (λ _. stays_before known (y ∷ []) i x e))

module _ (functions : List Function) (cores : Cores) where
  stays_through : (known : List Instance) (o : Option Instance) (i : ℕ) (x : Instance) → slice_get known i ≡ Some x → slice_get (gone_through functions cores known o) i ≡ Some x
  stays_through known None i x e = e
  stays_through known (Some y) i x e = stays_with known (mentioned_by functions cores y) i x e

  pub front_stays : (n i : ℕ) (x : Instance) → slice_get (front_from 0 functions) i ≡ Some x → slice_get (after functions cores n) i ≡ Some x
  unfolding after
  front_stays zero i x e = e
  front_stays (suc n) i x e = stays_through (after functions cores n) (slice_get (after functions cores n) n) i x (front_stays n i x e)

  -- each function without type variables is in the list
  pub user_in : (list : List Instance) → IsList functions cores list → (i : ℕ) (f : Function) → slice_get functions i ≡ Some f → f.vars ≡ []
      → IsIn list (record { fun = User i; types = [] })
  user_in list is i f h none =
      let e : 0 + i ≡ i = omega arith in let x : Instance = record { fun = User i; types = [] } in
      let front = subst (λ z. IsIn (front_from 0 functions) (record { fun = User z; types = [] })) e (front_has 0 functions i f h none) in
      subst (λ xs. IsIn xs x) is.is (record { place = front.place; there = front_stays is.steps front.place x front.there })
