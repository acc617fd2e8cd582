-- Where a run begins: of an argument alone.
use Rattle.std.proofs.Common.{◌≡◌, ℕ, zero, suc, ◌+◌, ◌<◌, ◌≤◌, Some, None, List, [], ◌∷◌, refl, arith}
use Rattle.cg_base.specs.declared.kind.Sigil.{Sigil}
use Rattle.cg_base.specs.declared.kind.Sigil.TheVariants.{R, W}
use Rattle.cg_base.specs.Types.{Tau}
use Rattle.cg_heap.specs.declared.cell.Scalar.{Scalar}
use Rattle.cg_heap.specs.Reps.{AreApart, Heap, HeapWorld, Holds, foot}
use Rattle.cg_heap.specs.Steps.{IsFine, side}
use Rattle.cg_heap_laws.proofs.Frames.{none_is_not}
use Rattle.cg_heap_laws.proofs.There.{foot_there}
use Rattle.cg_refine.proofs.Contexts.{only_foot}
use Rattle.cg_refine_def.specs.Contexts.{context_foot}
use Rattle.cg_value.specs.Values.{Val}

-- a number that isn't at least one is zero
is_zero : (n : ℕ) → (1 ≤ n → ⊥) → n ≡ 0
is_zero zero k = refl
is_zero (suc n) k = absurd (k (omega arith))

-- what is written is apart from what is read, also of other numbers that are the same
apart_as : (w r w' r' : ℕ) → w' ≡ w → r' ≡ r → (1 ≤ w → w + r ≤ 1) → 1 ≤ w' → w' + r' ≤ 1
apart_as w r w' r' a b k l = let m = k (omega arith) in omega arith

module _ (world : HeapWorld) (h : Heap) where
  -- where there is no cell, nothing is reached
  unreached : (t : Tau) (us : List Scalar) (v : Val) → Holds world h t us v → (m : Sigil) (q : ℕ) → h q ≡ None → foot h m t us q ≡ 0
  unreached t us v r m q n = is_zero (foot h m t us q) (λ k. none_is_not (h q) (foot_there world h t us v r m q k).1 n)

  -- an argument alone is fine, where it is represented, apart, and in a heap without cells above the highest address
  pub start_fine : (top : ℕ) (t : Tau) (us : List Scalar) (v : Val) → Holds world h t us v → AreApart (foot h W t us) (foot h R t us)
      → ((q : ℕ) → top < q → h q ≡ None)
      → IsFine (side h top (context_foot h W (Some t ∷ []) (us ∷ [])) (context_foot h R (Some t ∷ []) (us ∷ [])))
  start_fine top t us v r apart above = record {
    apart = λ q. apart_as (foot h W t us q) (foot h R t us q) _ _ (only_foot world h t us W q) (only_foot world h t us R q) (apart q);
    low = λ q k.
        let w = unreached t us v r W q (above q k) in
        let x = unreached t us v r R q (above q k) in
        omega arith;
    above = above;
  }
