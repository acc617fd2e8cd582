-- What is answered of a list, limit by limit.
use Rattle.std.proofs.Common.{◌≡◌, ◌<◌, ◌≤◌, ◌+◌, ℕ, zero, suc, Bool, true, false, nat_lt, List, [], ◌∷◌, Some, get_or, length, map, slice_get, refl, sym, ap, ◌∙◌, arith, Err}
use Rattle.std.proofs.lemmas.Bool.{lt-ltb, ltb-true}
use Rattle.std.proofs.lemmas.List.{length-map}
use Rattle.cg_base.specs.declared.limit.Limit.TheVariants as limits
use Rattle.cg_core.specs.Kernels.{Function}
use Rattle.cg_inst.specs.Answered.{Answers}
use Rattle.cg_inst.specs.declared.fault.InstFault.{InstFault}
use Rattle.cg_inst.specs.declared.fault.InstFault.TheVariants.{Limit, Memory}
use Rattle.cg_inst.specs.Founds.{FindsThem}
use Rattle.cg_inst.specs.Lists.{Cores}
use Rattle.cg_inst.proofs.Standing.{within}
use Rattle.cg_base.proofs.Counts.{no_steps as never}

module _ (functions : List Function) (cores : Cores) where
  pub answers_search : (e : InstFault) → FindsThem functions cores (Err e) → Answers functions cores (Err e)
  answers_search Memory c = tt
  answers_search (Limit limits.Instances) c = c
  answers_search (Limit limits.Source) c = absurd c
  answers_search (Limit limits.Nesting) c = absurd c
  answers_search (Limit limits.Functions) c = absurd c
  answers_search (Limit limits.Fields) c = absurd c
  answers_search (Limit limits.Ty) c = absurd c
  answers_search (Limit limits.Depth) c = absurd c
  answers_search (Limit limits.Core) c = absurd c
  answers_search (Limit limits.Heap) c = absurd c
  answers_search (Limit limits.Certificate) c = absurd c

-- ---- where an instance stands

pub at_place : {A B : Type 0} (f : A → B) (xs : List A) (n : ℕ) (x : A) → n < length xs → x ≡ get_or xs n x → slice_get (map f xs) n ≡ Some (f x)
at_place f [] n x h e = absurd (omega arith)
at_place f (y ∷ xs) zero x h e = ap (λ z. Some (f z)) (sym e)
at_place f (y ∷ xs) (suc n) x h e = at_place f xs n x (omega (arith, h)) e

-- not at the places before one and not at this one
pub not_yet : {A B : Type 0} (f : A → B) (xs : List A) (n : ℕ) (x : A) (s : B) → n < length xs → x ≡ get_or xs n x → (f x ≡ s → ⊥)
    → ((i : ℕ) → i < n → slice_get (map f xs) i ≡ Some s → ⊥) → (i : ℕ) → i < n + 1 → slice_get (map f xs) i ≡ Some s → ⊥
not_yet f xs n x s h e other before i bound there = either (nat_lt i n) refl
  where
    some_same : {B : Type 0} (a b : B) → Some a ≡ Some b → a ≡ b
    some_same a b e = cc

    either : (b : Bool) → nat_lt i n ≡ b → ⊥
    either true q = before i (ltb-true i n q) there
    either false q =
        let not : i < n → ⊥ = (λ l. never (sym q ∙ lt-ltb i n l)) in
        let same : i ≡ n = omega (arith, bound, not) in
        other (some_same (f x) s (sym (at_place f xs n x h e) ∙ ap (slice_get (map f xs)) (sym same) ∙ there))

-- nowhere, where it is not at the places before the end
pub nowhere : {A B : Type 0} (f : A → B) (xs : List A) (n : ℕ) (s : B) → length xs ≤ n → ((i : ℕ) → i < n → slice_get (map f xs) i ≡ Some s → ⊥) → (i : ℕ) → slice_get (map f xs) i ≡ Some s → ⊥
nowhere f xs n s h before i there = let l = length-map xs f in let w = within (map f xs) i s there in before i (omega (arith, h, l, w)) there
