-- The list of the addresses that scalars reach has each as often as it is reached.
use Rattle.std.proofs.Common.{◌≡◌, ℕ, ◌+◌, zero, suc, true, false, List, [], ◌∷◌, ◌++◌, take, drop, refl, arith}
use Rattle.cg_base.specs.declared.kind.Sigil.{Sigil}
use Rattle.cg_base.specs.declared.kind.Sigil.TheVariants.{R, W, U}
use Rattle.cg_base.specs.Types.{Tau, var, seen, unit, word, bool, arrow, abs, variant, fields, Parts, end, part}
use Rattle.cg_heap.specs.declared.cell.Scalar.{Scalar}
use Rattle.cg_heap.specs.Reps.{Heap, counted, first_address, first_number, foot, foot_all, foot_at, inner, slots, tail}
use Rattle.cg_heap.specs.Steps.{count}
use Rattle.cg_heap.specs.Addresses.{own, reached, reached_all, reached_at}

-- what stands in two lists
pub count_append : (q : ℕ) (xs ys : List ℕ) → count q (xs ++ ys) ≡ count q xs + count q ys
count_append q [] ys = omega arith
count_append q (x ∷ xs) ys = let e = count_append q xs ys in omega arith

-- a cell's own address stands there as often as it is counted
own_count : (m s : Sigil) (p q : ℕ) → count q (own m s p) ≡ counted m s p q
own_count R R p q = omega arith
own_count R W p q = refl
own_count R U p q = refl
own_count W R p q = refl
own_count W W p q = omega arith
own_count W U p q = refl
own_count U s p q = refl

module _ (h : Heap) (m : Sigil) where
  mutual
    unfolding foot reached

    -- an address stands in the list of those that a value reaches as often as it is reached
    pub reached_count : (t : Tau) (us : List Scalar) (q : ℕ) → count q (reached h m t us) ≡ foot h m t us q
    reached_count (var n) us q = refl
    reached_count (seen n) us q = refl
    reached_count unit us q = refl
    reached_count (word w) us q = refl
    reached_count bool us q = refl
    reached_count (arrow a b) us q = refl
    reached_count (abs name args s) us q = own_count m s (first_address us) q
    reached_count (variant ps) us q = reached_at_count ps (first_number us) (tail us) q
    reached_count (fields ps s) us q =
        let j = count_append q (own m s (first_address us)) (reached_all h m ps (inner h s us)) in
        let a = own_count m s (first_address us) q in
        let b = reached_all_count ps (inner h s us) q in
        omega arith

    -- fields
    reached_all_count : (ps : Parts) (us : List Scalar) (q : ℕ) → count q (reached_all h m ps us) ≡ foot_all h m ps us q
    reached_all_count end us q = refl
    reached_all_count (part name t true ps) us q = reached_all_count ps (drop (slots t) us) q
    reached_all_count (part name t false ps) us q =
        let j = count_append q (reached h m t (take (slots t) us)) (reached_all h m ps (drop (slots t) us)) in
        let a = reached_count t (take (slots t) us) q in
        let b = reached_all_count ps (drop (slots t) us) q in
        omega arith

    -- an alternative
    reached_at_count : (ps : Parts) (i : ℕ) (us : List Scalar) (q : ℕ) → count q (reached_at h m ps i us) ≡ foot_at h m ps i us q
    reached_at_count end i us q = refl
    reached_at_count (part name t true ps) zero us q = refl
    reached_at_count (part name t false ps) zero us q = reached_count t (take (slots t) us) q
    reached_at_count (part name t taken ps) (suc i) us q = reached_at_count ps i (drop (slots t) us) q
