-- What represents a value represents it observed: then it writes nothing, and reads what it wrote or read.
use Rattle.std.proofs.Common.{◌≡◌, ℕ, zero, suc, ◌+◌, true, false, IsTrue, Option, List, take, drop, refl, sym, ap, ◌∙◌, subst, arith}
use Rattle.cg_base.specs.declared.kind.Sigil.{Sigil}
use Rattle.cg_base.specs.declared.kind.Sigil.TheVariants.{R, W, U}
use Rattle.cg_base.specs.Types.{Tau, var, seen, unit, word, bool, arrow, abs, variant, fields, Taus, Parts, end, part}
use Rattle.cg_base.specs.Types as types
use Rattle.cg_heap.specs.declared.cell.Cell.{Cell}
use Rattle.cg_heap.specs.declared.cell.Scalar.{Scalar}
use Rattle.cg_heap.specs.Reps.{Heap, HeapWorld, StandsFor, IsBoxed, Holds, HoldsAll, HoldsAt, slots, slots_of_parts, is_boxed, inner, first_number, first_address, tail, counted, foot, foot_all, foot_at}
use Rattle.cg_kinds.specs.Kinds.{bang, bang_sigil, bang_all, bang_parts}
use Rattle.cg_value.specs.Values as values
use Rattle.cg_value.specs.Values.{Val, Vals}

bang_inner : (h : Heap) (s : Sigil) (us : List Scalar) → inner h (bang_sigil s) us ≡ inner h s us
bang_inner h U us = refl
bang_inner h R us = refl
bang_inner h W us = refl

bang_boxed : (h : Heap) (s : Sigil) (us : List Scalar) → IsBoxed h s us → IsBoxed h (bang_sigil s) us
bang_boxed h U us b = b
bang_boxed h R us b = b
bang_boxed h W us b = b

bang_is_boxed : (s : Sigil) → IsTrue (is_boxed s) → IsTrue (is_boxed (bang_sigil s))
bang_is_boxed U b = b
bang_is_boxed R b = b
bang_is_boxed W b = b

bang_counted : (s : Sigil) (a q : ℕ) → (counted W (bang_sigil s) a q ≡ 0) × (counted R (bang_sigil s) a q ≡ counted W s a q + counted R s a q)
bang_counted U a q = (refl, refl)
bang_counted R a q = (refl, omega arith)
bang_counted W a q = (refl, omega arith)

mutual
  unfolding bang slots

  -- an observed type has the same slots
  pub bang_slots : (t : Tau) → slots (bang t) ≡ slots t
  bang_slots (var n) = refl
  bang_slots (seen n) = refl
  bang_slots unit = refl
  bang_slots (word w) = refl
  bang_slots bool = refl
  bang_slots (arrow a b) = refl
  bang_slots (abs name args sigil) = refl
  bang_slots (variant ps) = ap (λ n. n + 1) (bang_slots_of_parts ps)
  bang_slots (fields ps U) = bang_slots_of_parts ps
  bang_slots (fields ps R) = refl
  bang_slots (fields ps W) = refl

  pub bang_slots_of_parts : (ps : Parts) → slots_of_parts (bang_parts ps) ≡ slots_of_parts ps
  bang_slots_of_parts end = refl
  bang_slots_of_parts (part name t taken ps) = cc (bang_slots t, bang_slots_of_parts ps)

module _ (world : HeapWorld) where
  -- a cell stands for the same values of an abstract type at observed arguments
  bang_stands : (name : List ℕ) (args : Taus) (o : Option Cell) (v : Val) → StandsFor world name args o v → StandsFor world name (bang_all args) o v
  unfolding bang
  bang_stands name types.none o v r = r
  bang_stands name (types.more (word w) types.none) o v r = r
  bang_stands name _ o v r = absurd r

  module _ (h : Heap) where
    mutual
      unfolding Holds bang

      -- what represents a value of a type represents it at the observed type
      pub bang_holds : (t : Tau) (us : List Scalar) (v : Val) → Holds world h t us v → Holds world h (bang t) us v
      bang_holds (var n) us v r = absurd r
      bang_holds (seen n) us v r = absurd r
      bang_holds unit us v r = r
      bang_holds (word w) us v r = r
      bang_holds bool us v r = r
      bang_holds (arrow a b) us v r = r
      bang_holds (abs name args s) us v r = (bang_is_boxed s r.0, r.1, bang_stands name args (h (first_address us)) v r.2)
      bang_holds (variant ps) us v r = (r.0, r.1, r.2, r.3 ∙ sym (bang_slots_of_parts ps), bang_holds_at ps (first_number us) (tail us) r.0 r.1 r.4, r.5)
      bang_holds (fields ps s) us v r =
          (r.0, bang_boxed h s us r.1, subst (λ ss. HoldsAll world h (bang_parts ps) ss r.0) (sym (bang_inner h s us)) (bang_holds_all ps (inner h s us) r.0 r.2), r.3)

      pub bang_holds_all : (ps : Parts) (us : List Scalar) (vs : Vals) → HoldsAll world h ps us vs → HoldsAll world h (bang_parts ps) us vs
      bang_holds_all end us values.none r = r
      bang_holds_all end us (values.more v vs) r = r
      bang_holds_all (part name t taken ps) us values.none r = absurd r
      bang_holds_all (part name t true ps) us (values.more v vs) r = rw (bang_slots t) (r.0, r.1, bang_holds_all ps (drop (slots t) us) vs r.2)
      bang_holds_all (part name t false ps) us (values.more v vs) r =
          rw (bang_slots t) (r.0, bang_holds t (take (slots t) us) v r.1, bang_holds_all ps (drop (slots t) us) vs r.2)

      pub bang_holds_at : (ps : Parts) (i : ℕ) (us : List Scalar) (x : List ℕ) (v : Val) → HoldsAt world h ps i us x v → HoldsAt world h (bang_parts ps) i us x v
      bang_holds_at end i us x v r = absurd r
      bang_holds_at (part name t taken ps) zero us x v r = rw (bang_slots t) (r.0, r.1, bang_holds t (take (slots t) us) v r.2)
      bang_holds_at (part name t taken ps) (suc i) us x v r = rw (bang_slots t) (bang_holds_at ps i (drop (slots t) us) x v r)

module _ (h : Heap) (q : ℕ) where
  mutual
    unfolding foot bang

    -- observed, nothing is written, and what was written or read is read
    pub bang_foot : (t : Tau) (us : List Scalar) → (foot h W (bang t) us q ≡ 0) × (foot h R (bang t) us q ≡ foot h W t us q + foot h R t us q)
    bang_foot (var n) us = (refl, refl)
    bang_foot (seen n) us = (refl, refl)
    bang_foot unit us = (refl, refl)
    bang_foot (word w) us = (refl, refl)
    bang_foot bool us = (refl, refl)
    bang_foot (arrow a b) us = (refl, refl)
    bang_foot (abs name args s) us = bang_counted s (first_address us) q
    bang_foot (variant ps) us = bang_foot_at ps (first_number us) (tail us)
    bang_foot (fields ps s) us =
        let a = bang_counted s (first_address us) q in
        rw (bang_inner h s us) (let b = bang_foot_all ps (inner h s us) in (omega arith, omega arith))

    pub bang_foot_all : (ps : Parts) (us : List Scalar)
        → (foot_all h W (bang_parts ps) us q ≡ 0) × (foot_all h R (bang_parts ps) us q ≡ foot_all h W ps us q + foot_all h R ps us q)
    bang_foot_all end us = (refl, refl)
    bang_foot_all (part name t true ps) us = rw (bang_slots t) (bang_foot_all ps (drop (slots t) us))
    bang_foot_all (part name t false ps) us =
        rw (bang_slots t) (let a = bang_foot t (take (slots t) us) in let b = bang_foot_all ps (drop (slots t) us) in (omega arith, omega arith))

    pub bang_foot_at : (ps : Parts) (i : ℕ) (us : List Scalar)
        → (foot_at h W (bang_parts ps) i us q ≡ 0) × (foot_at h R (bang_parts ps) i us q ≡ foot_at h W ps i us q + foot_at h R ps i us q)
    bang_foot_at end i us = (refl, refl)
    bang_foot_at (part name t true ps) zero us = (refl, refl)
    bang_foot_at (part name t false ps) zero us = rw (bang_slots t) (bang_foot t (take (slots t) us))
    bang_foot_at (part name t taken ps) (suc i) us = rw (bang_slots t) (bang_foot_at ps i (drop (slots t) us))
