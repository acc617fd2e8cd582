-- Positions of names, added one after the other.
use Rattle.std.proofs.Common.{◌≡◌, ℕ, ◌+◌, ◌<◌, List, [], ◌∷◌, ◌++◌, map, length, get_or, take, Result, Ok, Err, refl, sym, ap, ◌∙◌, subst, Bor}
use Rattle.std.specs.Prelude.{OnOk}
use Rattle.std.specs.BTreeMap.{BTreeMap}
use Rattle.std.specs.Global.{Vec}
use Rattle.cg_base.specs.declared.memory.Memory.{Memory}
use Rattle.cg_resolve_mentions.specs.Positions.{pushed, GoesOn, IsAlso}
use Rattle.cg_resolve_mentions.proofs.Pushed.{so_far, pushed_none, pushed_more}

module _ (table : BTreeMap (Bor (List ℕ)) ℕ) where
  -- of no name
  pub goes_none : (targets : Result (Vec ℕ) Memory) → GoesOn table targets [] targets
  goes_none (Ok positions) = sym (pushed_none table positions.items)
  goes_none (Err memory) = refl

  -- of the names of two parts
  pub goes_both : (xs ys : List (List ℕ)) (targets inside result : Result (Vec ℕ) Memory) → GoesOn table targets xs inside → GoesOn table inside ys result → GoesOn table targets (xs ++ ys) result
  goes_both xs ys (Ok before) (Ok positions) (Ok after) first second = second ∙ ap (λ l. pushed table l ys) first ∙ pushed_more table before.items xs ys
  goes_both xs ys (Ok before) (Ok positions) (Err memory) first second = tt
  goes_both xs ys (Ok before) (Err memory) (Ok after) first second = absurd (cc)
  goes_both xs ys (Ok before) (Err memory) (Err more) first second = tt
  goes_both xs ys (Err memory) (Ok positions) result first second = absurd (cc)
  goes_both xs ys (Err memory) (Err more) result first second = second

  -- behind the same positions, and before them
  pub goes_behind : (names : List (List ℕ)) (targets inside result : Result (Vec ℕ) Memory) → IsAlso targets inside → GoesOn table inside names result → GoesOn table targets names result
  goes_behind names (Ok before) (Ok positions) (Ok after) same goes = goes ∙ ap (λ l. pushed table l names) same
  goes_behind names (Ok before) (Ok positions) (Err memory) same goes = tt
  goes_behind names (Ok before) (Err memory) (Ok after) same goes = absurd (cc)
  goes_behind names (Ok before) (Err memory) (Err more) same goes = tt
  goes_behind names (Err memory) (Ok positions) result same goes = absurd (cc)
  goes_behind names (Err memory) (Err more) result same goes = goes

  pub goes_before : (names : List (List ℕ)) (targets inside result : Result (Vec ℕ) Memory) → GoesOn table targets names inside → IsAlso inside result → GoesOn table targets names result
  goes_before names (Ok before) (Ok positions) (Ok after) goes same = same ∙ goes
  goes_before names (Ok before) (Ok positions) (Err memory) goes same = tt
  goes_before names (Ok before) (Err memory) (Ok after) goes same = absurd (cc)
  goes_before names (Ok before) (Err memory) (Err more) goes same = tt
  goes_before names (Err memory) (Ok positions) result goes same = absurd (cc)
  goes_before names (Err memory) (Err more) result goes same = same

  -- of names that are the same where there was memory before
  pub goes_same : (xs ys : List (List ℕ)) (inside result : Result (Vec ℕ) Memory) → OnOk inside (xs ≡ ys) → GoesOn table inside xs result → GoesOn table inside ys result
  goes_same xs ys (Ok positions) result same goes = subst (λ l. GoesOn table (Ok positions) l result) same goes
  goes_same xs ys (Err memory) result same goes = goes

  -- where there was memory in the end, there was before
  pub on_both : (P Q : Type 0) (xs : List (List ℕ)) (inside result : Result (Vec ℕ) Memory) → GoesOn table inside xs result → OnOk inside P → OnOk result Q → OnOk result (P × Q)
  on_both P Q xs inside (Err memory) goes p q = tt
  on_both P Q xs (Ok before) (Ok after) goes p q = (p, q)
  on_both P Q xs (Err memory) (Ok after) goes p q = absurd (cc)

-- of the names of one item more, in items that make a tree, the last outermost
module _ {S T X : Type 0} (to : List T → S) (one : S → T → S) (push : (ts : List T) (t : T) → to (ts ++ t ∷ []) ≡ one (to ts) t) (view : X → T)
    (items : List X) (i : ℕ) (x : X) (within : i < length items) (is : x ≡ get_or items i x) where
  pub goes_turn : (F : S → List (List ℕ)) (G : S → T → List (List ℕ)) → ((s : S) (t : T) → F (one s t) ≡ F s ++ G s t) → (table : BTreeMap (Bor (List ℕ)) ℕ) (targets inside result : Result (Vec ℕ) Memory)
      → GoesOn table targets (F (to (map view (take i items)))) inside → GoesOn table inside (G (to (map view (take i items))) (view x)) result → GoesOn table targets (F (to (map view (take (i + 1) items)))) result
  goes_turn F G step table targets inside result first second =
      subst (λ l. GoesOn table targets l result)
      (sym (ap F (so_far to one push view items i x within is) ∙ step (to (map view (take i items))) (view x)))
      (goes_both table (F (to (map view (take i items)))) (G (to (map view (take i items))) (view x)) targets inside result first second)
