-- The functions without type variables, which stand in front.
use Rattle.std.proofs.Common.{◌≡◌, ℕ, suc, ◌<◌, ◌≤◌, ◌+◌, ◌||◌, Bool, true, false, List, [], ◌∷◌, ◌++◌, drop, get_or, length, refl, sym, ap, ◌∙◌, subst, arith, if◌then◌else◌}
use Rattle.std.proofs.lemmas.List.{append_assoc, append-nil, drop_all, drop_more, length-append}
use Rattle.std.specs.List.{list_any}
use Rattle.cg_base.specs.declared.fun.Fun.TheVariants.{User}
use Rattle.cg_base.specs.declared.kind.Bound.{Bound}
use Rattle.cg_core.specs.Kernels.{Function}
use Rattle.cg_inst.specs.Lists.{front_from, front_one, same_instance, with_instance}
use Rattle.cg_inst_types.specs.Places.{Each}
use Rattle.cg_typing.specs.Instances.{Instance}
use Rattle.cg_inst.proofs.SameInstance.{instance_is}

-- an instance of a function that stands before a position
pub record IsBefore (n : ℕ) (x : Instance) : Type 0 where
  pub at : ℕ
  pub is : x.fun ≡ User at
  pub before : at < n

pub all_before : (n : ℕ) (xs : List Instance) → Each (IsBefore n) xs → Each (IsBefore (n + 1)) xs
all_before n [] h = tt
all_before n (x ∷ xs) h = (record { at = h.0.at; is = h.0.is; before = omega (arith, h.0.before) }, all_before n xs h.1)

user_same : (i j : ℕ) → User i ≡ User j → i ≡ j
user_same i j e = cc

-- a function isn't among those before it
not_among : (n : ℕ) (xs : List Instance) → Each (IsBefore n) xs → list_any (same_instance (record { fun = User n; types = [] })) xs ≡ false
not_among n [] h = refl
not_among n (x ∷ xs) h = either (same_instance (record { fun = User n; types = [] }) x) refl (not_among n xs h.1)
  where
    either : (b : Bool) → same_instance (record { fun = User n; types = [] }) x ≡ b → list_any (same_instance (record { fun = User n; types = [] })) xs ≡ false
        → (same_instance (record { fun = User n; types = [] }) x || list_any (same_instance (record { fun = User n; types = [] })) xs) ≡ false
    either true e rest =
        let one = instance_is (record { fun = User n; types = [] }) x e in
        let same = user_same n h.0.at (ap (λ (y : Instance). y.fun) one ∙ h.0.is) in absurd (omega (arith, h.0.before, same))
    either false e rest = ap (λ b. b || list_any (same_instance (record { fun = User n; types = [] })) xs) e ∙ rest

pub entered_last : (n : ℕ) (xs : List Instance) → Each (IsBefore n) xs → with_instance xs (record { fun = User n; types = [] }) ≡ xs ++ record { fun = User n; types = [] } ∷ []
entered_last n xs h = ap (λ b. if b then xs else xs ++ record { fun = User n; types = [] } ∷ []) (not_among n xs h)

pub last_before : (n : ℕ) (xs : List Instance) → Each (IsBefore n) xs → Each (IsBefore (n + 1)) (xs ++ record { fun = User n; types = [] } ∷ [])
last_before n [] h = (record { at = n; is = refl; before = omega arith }, tt)
last_before n (x ∷ xs) h = (record { at = h.0.at; is = h.0.is; before = omega (arith, h.0.before) }, last_before n xs h.1)

-- the function at a position, and those behind it
pub front_next : (fs : List Function) (i : ℕ) (d : Function) → i < length fs → front_from i (drop i fs) ≡ front_one i (get_or fs i d).vars ++ front_from (i + 1) (drop (i + 1) fs)
unfolding front_from
front_next fs i d h = let n : suc i ≡ i + 1 = omega arith in ap (front_from i) (drop_more fs i d h) ∙ ap (λ m. front_one i (get_or fs i d).vars ++ front_from m (drop (i + 1) fs)) n

pub front_end : (fs : List Function) (i : ℕ) → length fs ≤ i → front_from i (drop i fs) ≡ []
unfolding front_from
front_end fs i h = ap (front_from i) (drop_all i fs h)

pub with_vars : (i : ℕ) (bs : List Bound) → (length bs ≡ 0 → ⊥) → front_one i bs ≡ []
with_vars i [] h = absurd (h refl)
with_vars i (b ∷ bs) h = refl

pub without_vars : (i : ℕ) (bs : List Bound) → length bs ≡ 0 → front_one i bs ≡ record { fun = User i; types = [] } ∷ []
without_vars i [] h = refl
without_vars i (b ∷ bs) h = absurd (omega (arith, h))

module _ (fs : List Function) (n : ℕ) (f : Function) (bound : n < length fs) (is : f ≡ get_or fs n f) (known whole : List Instance)
    (before : Each (IsBefore n) known) (invariant : known ++ front_from n (drop n fs) ≡ whole) where
  this_and_others : known ++ front_one n f.vars ++ front_from (n + 1) (drop (n + 1) fs) ≡ whole
  this_and_others =
      append_assoc known (front_one n f.vars) (front_from (n + 1) (drop (n + 1) fs))
      ∙ ap (λ (g : Function). known ++ (front_one n g.vars ++ front_from (n + 1) (drop (n + 1) fs))) is
      ∙ ap (λ xs. known ++ xs) (sym (front_next fs n f bound)) ∙ invariant

  -- the function at a position is in front, or not
  pub in_front : (new : List Instance) → length f.vars ≡ 0 → new ≡ with_instance known (record { fun = User n; types = [] })
      → (new ++ front_from (n + 1) (drop (n + 1) fs) ≡ whole) × Each (IsBefore (n + 1)) new
  in_front new none e =
      let last = e ∙ entered_last n known before in (
        ap (λ xs. xs ++ front_from (n + 1) (drop (n + 1) fs)) (last ∙ ap (λ xs. known ++ xs) (sym (without_vars n f.vars none))) ∙ this_and_others,
        subst (Each (IsBefore (n + 1))) (sym last) (last_before n known before),
      )

  pub not_in_front : (length f.vars ≡ 0 → ⊥) → (known ++ front_from (n + 1) (drop (n + 1) fs) ≡ whole) × Each (IsBefore (n + 1)) known
  not_in_front some =
      (ap (λ xs. xs ++ front_from (n + 1) (drop (n + 1) fs)) (sym (append-nil known) ∙ ap (λ xs. known ++ xs) (sym (with_vars n f.vars some))) ∙ this_and_others, all_before n known before)

  -- one more is no more than all of them
  pub front_longer : length f.vars ≡ 0 → length (with_instance known (record { fun = User n; types = [] })) ≤ length whole
  front_longer none =
      let p = in_front (with_instance known (record { fun = User n; types = [] })) none refl in
      let l = length-append (with_instance known (record { fun = User n; types = [] })) (front_from (n + 1) (drop (n + 1) fs)) in omega (arith, l, ap length p.0)

pub front_done : (fs : List Function) (n : ℕ) (known whole : List Instance) → length fs ≤ n → known ++ front_from n (drop n fs) ≡ whole → known ≡ whole
front_done fs n known whole h e = sym (append-nil known) ∙ ap (λ xs. known ++ xs) (sym (front_end fs n h)) ∙ e
