-- Two heaps that agree on a footprint.
use Rattle.std.proofs.Common.{◌≡◌, ℕ, zero, suc, ◌+◌, ◌≤◌, true, false, IsTrue, Some, List, take, drop, refl, sym, ap, ◌∙◌, subst, arith}
use Rattle.cg_base.specs.declared.kind.Sigil.{Sigil}
use Rattle.cg_base.specs.declared.kind.Sigil.TheVariants.{R, W, U}
use Rattle.cg_base.specs.Types.{Tau, var, seen, unit, word, bool, arrow, abs, variant, fields, Parts, end, part}
use Rattle.cg_heap.specs.declared.cell.Cell.TheVariants.{Slots}
use Rattle.cg_heap.specs.declared.cell.Scalar.{Scalar}
use Rattle.cg_heap.specs.Reps.{Heap, HeapWorld, StandsFor, IsBoxed, Holds, HoldsAll, HoldsAt, slots, slots_in, is_boxed, inner, first_number, first_address, tail, counted, foot, foot_all, foot_at}
use Rattle.cg_value.specs.Values as values
use Rattle.cg_value.specs.Values.{Val, Vals}
use Rattle.cg_base.proofs.Counts.{eqb_same as eq_self}

-- a boxed cell is counted at its own address
pub counted_self : (s : Sigil) (p : ℕ) → IsTrue (is_boxed s) → 1 ≤ counted W s p p + counted R s p p
counted_self U p b = absurd (cc)
counted_self R p b = rw (eq_self p) (omega arith)
counted_self W p b = rw (eq_self p) (omega arith)

module _ (h h' : Heap) where
  -- what is inside a record, in two heaps that agree on the record's address
  inner_same : (s : Sigil) (us : List Scalar) → ((q : ℕ) → 1 ≤ counted W s (first_address us) q + counted R s (first_address us) q → h' q ≡ h q)
      → (inner h' s us ≡ inner h s us) × (IsBoxed h s us → IsBoxed h' s us)
  inner_same U us n = (refl, λ b. b)
  inner_same R us n = let e : h' (first_address us) ≡ h (first_address us) = n (first_address us) (counted_self R (first_address us) refl) in
      (ap slots_in e, λ b. (b.0, e ∙ b.1 ∙ ap (λ o. Some (Slots (slots_in o))) (sym e)))
  inner_same W us n = let e : h' (first_address us) ≡ h (first_address us) = n (first_address us) (counted_self W (first_address us) refl) in
      (ap slots_in e, λ b. (b.0, e ∙ b.1 ∙ ap (λ o. Some (Slots (slots_in o))) (sym e)))

module _ (world : HeapWorld) (h h' : Heap) where
  mutual
    unfolding Holds foot

    -- heaps that agree wherever a value is reached represent it by the same scalars, with the same footprint
    pub holds_same : (t : Tau) (us : List Scalar) (v : Val) → Holds world h t us v
        → ((q : ℕ) → 1 ≤ foot h W t us q + foot h R t us q → h' q ≡ h q)
        → Holds world h' t us v × ((m : Sigil) (q : ℕ) → foot h' m t us q ≡ foot h m t us q)
    holds_same (var n) us v r agree = absurd r
    holds_same (seen n) us v r agree = absurd r
    holds_same unit us v r agree = (r, λ m q. refl)
    holds_same (word w) us v r agree = (r, λ m q. refl)
    holds_same bool us v r agree = (r, λ m q. refl)
    holds_same (arrow a b) us v r agree = (r, λ m q. refl)
    holds_same (abs name args sigil) us v r agree =
        ((r.0, r.1, subst (λ o. StandsFor world name args o v) (sym (agree (first_address us) (counted_self sigil (first_address us) r.0))) r.2), λ m q. refl)
    holds_same (variant ps) us v r agree =
        let a = holds_at_same ps (first_number us) (tail us) r.0 r.1 r.4 agree in
        ((r.0, r.1, r.2, r.3, a.0, r.5), a.1)
    holds_same (fields ps s) us v r agree =
        let e = inner_same h h' s us (λ q k. agree q (omega arith)) in
        let a = holds_all_same ps (inner h s us) r.0 r.2 (λ q k. agree q (omega arith)) in (
          (r.0, e.1 r.1, subst (λ ss. HoldsAll world h' ps ss r.0) (sym e.0) a.0, r.3),
          λ m q. ap (λ x. counted m s (first_address us) q + x) (ap (λ ss. foot_all h' m ps ss q) e.0 ∙ a.1 m q),
        )

    -- fields
    pub holds_all_same : (ps : Parts) (us : List Scalar) (vs : Vals) → HoldsAll world h ps us vs
        → ((q : ℕ) → 1 ≤ foot_all h W ps us q + foot_all h R ps us q → h' q ≡ h q)
        → HoldsAll world h' ps us vs × ((m : Sigil) (q : ℕ) → foot_all h' m ps us q ≡ foot_all h m ps us q)
    holds_all_same end us values.none r agree = (r, λ m q. refl)
    holds_all_same end us (values.more v vs) r agree = absurd r
    holds_all_same (part name t taken ps) us values.none r agree = absurd r
    holds_all_same (part name t true ps) us (values.more v vs) r agree =
        let b = holds_all_same ps (drop (slots t) us) vs r.2 agree in
        ((r.0, r.1, b.0), b.1)
    holds_all_same (part name t false ps) us (values.more v vs) r agree =
        let a = holds_same t (take (slots t) us) v r.1 (λ q k. agree q (omega arith)) in
        let b = holds_all_same ps (drop (slots t) us) vs r.2 (λ q k. agree q (omega arith)) in
        ((r.0, a.0, b.0), λ m q. ap (λ x. x + foot_all h' m ps (drop (slots t) us) q) (a.1 m q) ∙ ap (λ x. foot h m t (take (slots t) us) q + x) (b.1 m q))

    -- an alternative
    pub holds_at_same : (ps : Parts) (i : ℕ) (us : List Scalar) (x : List ℕ) (v : Val) → HoldsAt world h ps i us x v
        → ((q : ℕ) → 1 ≤ foot_at h W ps i us q + foot_at h R ps i us q → h' q ≡ h q)
        → HoldsAt world h' ps i us x v × ((m : Sigil) (q : ℕ) → foot_at h' m ps i us q ≡ foot_at h m ps i us q)
    holds_at_same end i us x v r agree = absurd r
    holds_at_same (part name t taken ps) (suc i) us x v r agree = holds_at_same ps i (drop (slots t) us) x v r agree
    holds_at_same (part name t true ps) zero us x v r agree = absurd (let e = r.0 in cc)
    holds_at_same (part name t false ps) zero us x v r agree =
        let a = holds_same t (take (slots t) us) v r.2 agree in
        ((refl, r.1, a.0), a.1)
