-- Lists of instances that grow: what stays where it was, and what is added.
use Rattle.std.proofs.Common.{◌≡◌, ℕ, zero, suc, ◌+◌, ◌-◌, ◌<◌, ◌≤◌, true, false, ◌⊎◌, inl, inr, ⊎_elim, Option, Some, None, List, [], ◌∷◌, ◌++◌, length, refl, sym, ap, ◌∙◌, subst, arith, if◌then◌else◌}
use Rattle.std.proofs.lemmas.Option.{slice_get-get_or, slice_get_within, slice_get_past}
use Rattle.std.specs.List.{list_any}
use Rattle.std.specs.Prelude.{get_or, slice_get}
use Rattle.cg_base.specs.declared.fun.Fun.TheVariants.{User}
use Rattle.cg_base.specs.declared.kind.Bound.{Bound}
use Rattle.cg_core.specs.Kernels.{Function}
use Rattle.cg_inst.specs.Lists.{Cores, IsList, after, front_from, front_one, gone_through, mentioned_by, same_instance, with_instance, with_instances}
use Rattle.cg_typing.specs.Instances.{Instance, IsIn}
use Rattle.cg_check_laws.proofs.Basics.{or_false as neither, below_or_not as one_is_less}
use Rattle.cg_inst_laws.proofs.Each.{Each, each_at, each_both, each_then}
use Rattle.cg_inst.proofs.Names.{by_cases}
use Rattle.cg_inst.proofs.SameInstance.{instance_is, instance_same}
use Rattle.cg_base.proofs.Truths.{either as or_elim}
use Rattle.cg_base.proofs.Counts.{no_steps as never}

-- ---- one element more at the end

-- what is in a list stays where it is
abbrev pub IsLonger : List Instance → List Instance → Type 0
IsLonger xs ys = (i : ℕ) (x : Instance) → slice_get xs i ≡ Some x → slice_get ys i ≡ Some x

-- a list behind another leaves its elements where they were
get_front : (xs ys : List Instance) → IsLonger xs (xs ++ ys)
get_front [] ys i x e = absurd (cc)
get_front (y ∷ xs) ys zero x e = e
get_front (y ∷ xs) ys (suc i) x e = get_front xs ys i x e

-- the last one stands at the length
get_last : (xs : List Instance) (x : Instance) → slice_get (xs ++ x ∷ []) (length xs) ≡ Some x
get_last [] x = refl
get_last (y ∷ xs) x = get_last xs x

-- an element of the longer list is one of the shorter one, or the last
get_either : (xs : List Instance) (y : Instance) (i : ℕ) (x : Instance) → slice_get (xs ++ y ∷ []) i ≡ Some x → (slice_get xs i ≡ Some x) ⊎ ((i ≡ length xs) × (y ≡ x))
get_either [] y zero x e = inr (refl, (cc))
get_either [] y (suc i) x e = absurd (cc)
get_either (z ∷ xs) y zero x e = inl e
get_either (z ∷ xs) y (suc i) x e = ⊎_elim (λ e. inl e) (λ p. inr (ap suc p.0, p.1)) (get_either xs y i x e)

-- ---- what is in a list, by the test

-- what passes the test is in the list
found_is : (x : Instance) (xs : List Instance) → list_any (same_instance x) xs ≡ true → IsIn xs x
found_is x [] h = never h
found_is x (y ∷ xs) h =
    or_elim (same_instance x y) (list_any (same_instance x) xs) h (λ e. record { place = zero; there = ap Some (sym (instance_is x y e)) })
    (λ e. let q = found_is x xs e in record { place = suc q.place; there = q.there })

-- and what doesn't isn't
not_found : (x : Instance) (xs : List Instance) (i : ℕ) → list_any (same_instance x) xs ≡ false → slice_get xs i ≡ Some x → ⊥
not_found x [] i h e = absurd (cc)
not_found x (y ∷ xs) zero h e =
    let q : y ≡ x = cc in never (sym (subst (λ y. same_instance x y ≡ false) q (neither (same_instance x y) _ h).0) ∙ instance_same x)
not_found x (y ∷ xs) (suc i) h e = not_found x xs i (neither (same_instance x y) _ h).1 e

-- ---- growth

-- of two numbers one is less, or the other is no more
less_next : (m n : ℕ) → (m < n) ⊎ (n ≤ m) → (suc m < suc n) ⊎ (suc n ≤ suc m)
less_next m n (inl h) = inl (omega arith)
less_next m n (inr h) = inr (omega arith)

-- a list with more, or the list as it was
with_cases : (P : List Instance → Type 0) (known : List Instance) (x : Instance)
    → (list_any (same_instance x) known ≡ true → P known) → (list_any (same_instance x) known ≡ false → P (known ++ x ∷ [])) → P (with_instance known x)
with_cases P known x f g = by_cases (λ b. P (if b then known else known ++ x ∷ [])) (list_any (same_instance x) known) f g

-- what is in a list stays where it is when others are added
longer_one : (known : List Instance) (x : Instance) → IsLonger known (with_instance known x)
longer_one known x = with_cases (IsLonger known) known x (λ _ i y e. e) (λ _. get_front known (x ∷ []))

longer_all : (known xs : List Instance) → IsLonger known (with_instances known xs)
unfolding with_instances
longer_all known [] i y e = e
longer_all known (x ∷ xs) i y e = longer_all (with_instance known x) xs i y (longer_one known x i y e)

in_longer : (xs ys : List Instance) (x : Instance) → IsLonger xs ys → IsIn xs x → IsIn ys x
in_longer xs ys x l h = record { place = h.place; there = l h.place x h.there }

-- one that is added is in the list
added_one : (known : List Instance) (x : Instance) → IsIn (with_instance known x) x
added_one known x = with_cases (λ ys. IsIn ys x) known x (found_is x known) (λ _. record { place = length known; there = get_last known x })

-- each of those that are added is in the list
pub added_all : (known xs : List Instance) → Each (IsIn (with_instances known xs)) xs
unfolding with_instances
added_all known [] = tt
added_all known (x ∷ xs) = (
  in_longer (with_instance known x) (with_instances (with_instance known x) xs) x (longer_all (with_instance known x) xs) (added_one known x),
  added_all (with_instance known x) xs,
)

-- ---- facts on each instance

module _ (P : Instance → Type 0) where
  each_one : (known : List Instance) (x : Instance) → Each P known → P x → Each P (with_instance known x)
  each_one known x h p = with_cases (Each P) known x (λ _. h) (λ _. each_both P known (x ∷ []) h (p, tt))

  each_all_with : (known xs : List Instance) → Each P known → Each P xs → Each P (with_instances known xs)
  unfolding with_instances
  each_all_with known [] h k = h
  each_all_with known (x ∷ xs) h k = each_all_with (with_instance known x) xs (each_one known x h k.0) k.1

-- ---- no instance twice

abbrev pub IsApart : List Instance → Type 0
IsApart list = (i j : ℕ) (x : Instance) → slice_get list i ≡ Some x → slice_get list j ≡ Some x → i ≡ j

apart_more : (known : List Instance) (x : Instance) → list_any (same_instance x) known ≡ false → IsApart known → IsApart (known ++ x ∷ [])
apart_more known x none h i j y e f =
    ⊎_elim (λ p. ⊎_elim (λ q. h i j y p q) (λ q. absurd (not_found x known i none (p ∙ ap Some (sym q.1)))) (get_either known x j y f))
    (λ p. ⊎_elim (λ q. absurd (not_found x known j none (q ∙ ap Some (sym p.1)))) (λ q. p.0 ∙ sym q.0) (get_either known x j y f)) (get_either known x i y e)

apart_one : (known : List Instance) (x : Instance) → IsApart known → IsApart (with_instance known x)
apart_one known x h = with_cases IsApart known x (λ _. h) (λ none. apart_more known x none h)

apart_all : (known xs : List Instance) → IsApart known → IsApart (with_instances known xs)
unfolding with_instances
apart_all known [] h = h
apart_all known (x ∷ xs) h = apart_all (with_instance known x) xs (apart_one known x h)

-- an instance of one of the functions from a position on, at no types
pub record IsFront (k : ℕ) (fs : List Function) (x : Instance) : Type 0 where
  pub at : ℕ
  pub function : Function
  pub there : slice_get fs at ≡ Some function
  pub none : function.vars ≡ []
  pub is : x ≡ record { fun = User (k + at); types = [] }

-- one of the functions behind the first is one of all
behind : (k : ℕ) (f : Function) (fs : List Function) (x : Instance) → IsFront (suc k) fs x → IsFront k (f ∷ fs) x
behind k f fs x h = record {
  at = suc h.at;
  function = h.function;
  there = h.there;
  none = h.none;
  is = let e : suc k + h.at ≡ k + suc h.at = omega arith in h.is ∙ ap (λ n. record { fun = User n; types = [] }) e;
}

front_one_is : (P : Instance → Type 0) (k : ℕ) (vars : List Bound) → (vars ≡ [] → P (record { fun = User k; types = [] })) → Each P (front_one k vars)
front_one_is P k [] h = (h refl, tt)
front_one_is P k (b ∷ bs) h = tt

-- in front stand functions without type variables
pub front_is : (k : ℕ) (fs : List Function) → Each (IsFront k fs) (front_from k fs)
unfolding front_from
front_is k [] = tt
front_is k (f ∷ fs) =
    each_both (IsFront k (f ∷ fs)) (front_one k f.vars) (front_from (suc k) fs)
    (front_one_is (IsFront k (f ∷ fs)) k f.vars
    (λ none. record { at = zero; function = f; there = refl; none = none; is = let e : k ≡ k + zero = omega arith in ap (λ n. record { fun = User n; types = [] }) e }))
    (each_then (IsFront (suc k) fs) (IsFront k (f ∷ fs)) (front_from (suc k) fs) (λ x h. behind k f fs x h) (front_is (suc k) fs))

-- in front each function stands once
user_at : (k n : ℕ) → User k ≡ User n → k ≡ n
user_at k n e = cc

apart_here : (k : ℕ) (fs : List Function) (j : ℕ) → slice_get (front_from (suc k) fs) j ≡ Some (record { fun = User k; types = [] }) → ⊥
apart_here k fs j e =
    let h = each_at (IsFront (suc k) fs) (front_from (suc k) fs) j (record { fun = User k; types = [] }) (front_is (suc k) fs) e in
    let q : k ≡ suc k + h.at = user_at k (suc k + h.at) (ap (λ (x : Instance). x.fun) h.is) in absurd (omega arith)

apart_front_one : (k : ℕ) (fs : List Function) (vars : List Bound) → IsApart (front_from (suc k) fs) → IsApart (front_one k vars ++ front_from (suc k) fs)
apart_front_one k fs [] h zero zero x e f = refl
apart_front_one k fs [] h zero (suc j) x e f = absurd (apart_here k fs j (f ∙ sym e))
apart_front_one k fs [] h (suc i) zero x e f = absurd (apart_here k fs i (e ∙ sym f))
apart_front_one k fs [] h (suc i) (suc j) x e f = ap suc (h i j x e f)
apart_front_one k fs (b ∷ bs) h i j x e f = h i j x e f

apart_front : (k : ℕ) (fs : List Function) → IsApart (front_from k fs)
unfolding front_from
apart_front k [] i j x e f = absurd (cc)
apart_front k (f ∷ fs) i j x e g = apart_front_one k fs f.vars (apart_front (suc k) fs) i j x e g

-- ---- while the entries are gone through

module _ (functions : List Function) (cores : Cores) where
  -- the list where so many have been
  abbrev list_at : ℕ → List Instance
  list_at n = after functions cores n

  -- what holds of the front, and of what an instance of which it holds mentions, holds of all
  pub each_after : (P : Instance → Type 0) → Each P (front_from 0 functions) → ((x : Instance) → P x → Each P (mentioned_by functions cores x)) → (n : ℕ) → Each P (list_at n)
  unfolding after
  each_after P h f zero = h
  each_after P h f (suc n) = let known = each_after P h f n in go (slice_get (list_at n) n) known (λ x e. f x (each_at P (list_at n) n x known e))
    where
      go : (o : Option Instance) → Each P (list_at n) → ((x : Instance) → o ≡ Some x → Each P (mentioned_by functions cores x)) → Each P (gone_through functions cores (list_at n) o)
      go None h g = h
      go (Some x) h g = each_all_with P (list_at n) (mentioned_by functions cores x) h (g x refl)

  pub apart_after : (n : ℕ) → IsApart (list_at n)
  unfolding after
  apart_after zero = apart_front 0 functions
  apart_after (suc n) = go (slice_get (list_at n) n) (apart_after n)
    where
      go : (o : Option Instance) → IsApart (list_at n) → IsApart (gone_through functions cores (list_at n) o)
      go None h = h
      go (Some x) h = apart_all (list_at n) (mentioned_by functions cores x) h

  -- a step keeps what is there, and adds what the entry that it comes to mentions
  longer_step : (n : ℕ) → IsLonger (list_at n) (list_at (suc n))
  unfolding after
  longer_step n = go (slice_get (list_at n) n)
    where
      go : (o : Option Instance) → IsLonger (list_at n) (gone_through functions cores (list_at n) o)
      go None i x e = e
      go (Some x) i y e = longer_all (list_at n) (mentioned_by functions cores x) i y e

  -- and so do more steps
  longer_steps : (n k : ℕ) → IsLonger (list_at n) (list_at (n + k))
  longer_steps n zero = let e : n ≡ n + zero = omega arith in subst (λ m. IsLonger (list_at n) (list_at m)) e (λ i x e. e)
  longer_steps n (suc k) =
      let e : suc (n + k) ≡ n + suc k = omega arith in
      subst (λ m. IsLonger (list_at n) (list_at m)) e (λ i x there. longer_step (n + k) i x (longer_steps n k i x there))

  longer_later : (m n : ℕ) → m ≤ n → IsLonger (list_at m) (list_at n)
  longer_later m n h = let e : m + (n - m) ≡ n = omega arith in subst (λ k. IsLonger (list_at m) (list_at k)) e (longer_steps m (n - m))

  -- where all entries have been gone through, the list stays
  stays_step : (n : ℕ) → length (list_at n) ≤ n → list_at (suc n) ≡ list_at n
  unfolding after
  stays_step n h = ap (gone_through functions cores (list_at n)) (slice_get_past (list_at n) n h)

  stays_steps : (n k : ℕ) → length (list_at n) ≤ n → list_at (n + k) ≡ list_at n
  stays_steps n zero h = let e : n + zero ≡ n = omega arith in ap list_at e
  stays_steps n (suc k) h =
      let same = stays_steps n k h in let e : n + suc k ≡ suc (n + k) = omega arith in
      let short : length (list_at (n + k)) ≤ n + k = let q : length (list_at (n + k)) ≡ length (list_at n) = ap length same in omega arith in
      ap list_at e ∙ stays_step (n + k) short ∙ same

  pub stays : (m n : ℕ) → length (list_at m) ≤ m → m ≤ n → list_at n ≡ list_at m
  stays m n h le = let e : n ≡ m + (n - m) = omega arith in ap list_at e ∙ stays_steps m (n - m) h

  -- so there is one list at most, and in it no instance twice
  pub one_list : (one other : List Instance) → IsList functions cores one → IsList functions cores other → one ≡ other
  one_list one other p q =
      ⊎_elim (λ less. let le : p.steps ≤ q.steps = omega arith in sym p.is ∙ sym (stays p.steps q.steps (short one p) le) ∙ q.is) (λ le. sym p.is ∙ stays q.steps p.steps (short other q) le ∙ q.is)
      (one_is_less p.steps q.steps)
    where
      short : (list : List Instance) (p : IsList functions cores list) → length (list_at p.steps) ≤ p.steps
      short list p = subst (λ list. length list ≤ p.steps) (sym p.is) p.done

  pub no_instance_twice : (list : List Instance) → IsList functions cores list → IsApart list
  no_instance_twice list p = subst IsApart p.is (apart_after p.steps)

  -- the entry that a step comes to is the one that stands there in the end
  here : (i n : ℕ) (x : Instance) → length (list_at n) ≤ n → slice_get (list_at n) i ≡ Some x → slice_get (list_at i) i ≡ Some x
  here i n x short e =
      let within : i < length (list_at n) = slice_get_within (list_at n) i x e in let le : i ≤ n = omega arith in
      ⊎_elim (λ more. reached (get_or (list_at i) i x) le (slice_get-get_or (list_at i) i x more)) (λ done. subst (λ list. slice_get list i ≡ Some x) (stays i n done le) e)
      (one_is_less i (length (list_at i)))
    where
      reached : (y : Instance) → i ≤ n → slice_get (list_at i) i ≡ Some y → slice_get (list_at i) i ≡ Some x
      reached y le f = f ∙ sym (longer_later i n le i y f) ∙ e

  -- what that entry mentions is in the list behind the step, and in all later ones
  mentions_in : (n : ℕ) (x : Instance) → slice_get (list_at n) n ≡ Some x → Each (IsIn (list_at (suc n))) (mentioned_by functions cores x)
  unfolding after
  mentions_in n x e =
      subst (λ list. Each (IsIn list) (mentioned_by functions cores x)) (sym (ap (gone_through functions cores (list_at n)) e)) (added_all (list_at n) (mentioned_by functions cores x))

  mentions_after : (n i : ℕ) (x : Instance) → length (list_at n) ≤ n → slice_get (list_at n) i ≡ Some x → Each (IsIn (list_at n)) (mentioned_by functions cores x)
  mentions_after n i x short e =
      let within : i < length (list_at n) = slice_get_within (list_at n) i x e in let le : suc i ≤ n = omega arith in
      each_then (IsIn (list_at (suc i))) (IsIn (list_at n)) (mentioned_by functions cores x) (λ y h. in_longer (list_at (suc i)) (list_at n) y (longer_later (suc i) n le) h)
      (mentions_in i x (here i n x short e))

  -- what an instance of the list mentions is in the list
  pub mentions_stay : (list : List Instance) → IsList functions cores list → (i : ℕ) (x : Instance) → slice_get list i ≡ Some x → Each (IsIn list) (mentioned_by functions cores x)
  mentions_stay list p i x e =
      subst (λ list. Each (IsIn list) (mentioned_by functions cores x)) p.is
      (mentions_after p.steps i x (subst (λ list. length list ≤ p.steps) (sym p.is) p.done) (subst (λ list. slice_get list i ≡ Some x) (sym p.is) e))
