-- Scalars represent one value at most.
use Rattle.std.proofs.Common.{◌≡◌, ℕ, zero, suc, true, false, not, IsTrue, Option, Some, List, codes, take, drop, refl, sym, ap, ◌∙◌}
use Rattle.std.proofs.lemmas.Bool.{and_parts}
use Rattle.std.specs.Str.{bytes_eq}
use Rattle.cg_base.specs.Types.{Tau, var, seen, unit, word, bool, arrow, abs, variant, fields, Taus, Parts, end, part}
use Rattle.cg_base.specs.Types as types
use Rattle.cg_heap.specs.declared.cell.Cell.{Cell}
use Rattle.cg_heap.specs.declared.cell.Cell.TheVariants.{Words, Answers}
use Rattle.cg_heap.specs.declared.cell.Scalar.{Scalar}
use Rattle.cg_heap.specs.Reps.{Heap, HeapWorld, StandsFor, Holds, HoldsAll, HoldsAt, Represents, slots, inner, first_number, first_address, tail}
use Rattle.cg_value.specs.Values as values
use Rattle.cg_value.specs.Values.{Val, chosen, parts, Vals}

instance_once : (o : Option (Val × Tau)) (v v' : Val) (t : Tau) → o ≡ Some (v, t) → o ≡ Some (v', t) → v ≡ v'
instance_once o v v' t e f = let p : ◌≡◌ {A = Val × Tau} (v, t) (v', t) = cc in ap (λ p. p.0) p

module _ (world : HeapWorld) (stands_once : (name ns : List ℕ) (v v' : Val) → IsTrue (world.stands name ns v) → IsTrue (world.stands name ns v') → v ≡ v') where
  -- a cell stands for one value of an abstract type
  pub stands_for_once : (name : List ℕ) (args : Taus) (o : Option Cell) (v v' : Val) → StandsFor world name args o v → StandsFor world name args o v' → v ≡ v'
  stands_for_once name types.none (Some (Answers bs)) v v' r s = r.1 ∙ sym s.1
  stands_for_once name types.none (Some (Words ns)) v v' r s =
      stands_once name ns v v' (and_parts (not (bytes_eq name (codes "SysState"))) _ r).1 (and_parts (not (bytes_eq name (codes "SysState"))) _ s).1
  stands_for_once name (types.more (word w) types.none) (Some (Words ns)) v v' r s = r.1 ∙ sym s.1
  stands_for_once name _ _ v v' r s = absurd r

  module _ (h : Heap) where
    mutual
      unfolding Holds

      -- scalars represent one value of a type
      pub holds_once : (t : Tau) (us : List Scalar) (v v' : Val) → Holds world h t us v → Holds world h t us v' → v ≡ v'
      holds_once (var n) us v v' r s = absurd r
      holds_once (seen n) us v v' r s = absurd r
      holds_once unit us v v' r s = r.1 ∙ sym s.1
      holds_once (word w) us v v' r s = r.2 ∙ sym s.2
      holds_once bool us v v' r s = r.2 ∙ sym s.2
      holds_once (arrow a b) us v v' r s = instance_once (world.instance_at (first_number us)) v v' (arrow a b) r.1 s.1
      holds_once (abs name args sigil) us v v' r s = stands_for_once name args (h (first_address us)) v v' r.2 s.2
      holds_once (variant ps) us v v' r s =
          let e = holds_at_once ps (first_number us) (tail us) r.0 s.0 r.1 s.1 r.4 s.4 in
          r.5 ∙ ap (λ n. chosen n r.1) e.0 ∙ ap (λ x. chosen s.0 x) e.1 ∙ sym s.5
      holds_once (fields ps sigil) us v v' r s = r.3 ∙ ap parts (holds_all_once ps (inner h sigil us) r.0 s.0 r.2 s.2) ∙ sym s.3

      -- and one list of values of fields
      pub holds_all_once : (ps : Parts) (us : List Scalar) (vs vs' : Vals) → HoldsAll world h ps us vs → HoldsAll world h ps us vs' → vs ≡ vs'
      holds_all_once end us values.none values.none r s = refl
      holds_all_once end us (values.more v vs) vs' r s = absurd r
      holds_all_once end us values.none (values.more v vs) r s = absurd s
      holds_all_once (part name t taken ps) us values.none vs' r s = absurd r
      holds_all_once (part name t true ps) us (values.more v vs) values.none r s = absurd s
      holds_all_once (part name t false ps) us (values.more v vs) values.none r s = absurd s
      holds_all_once (part name t true ps) us (values.more v vs) (values.more v' vs') r s =
          let e : v ≡ v' = r.1 ∙ sym s.1 in
          let f = holds_all_once ps (drop (slots t) us) vs vs' r.2 s.2 in
          ap (λ x. values.more x vs) e ∙ ap (values.more v') f
      holds_all_once (part name t false ps) us (values.more v vs) (values.more v' vs') r s =
          let e = holds_once t (take (slots t) us) v v' r.1 s.1 in
          let f = holds_all_once ps (drop (slots t) us) vs vs' r.2 s.2 in
          ap (λ x. values.more x vs) e ∙ ap (values.more v') f

      -- and one payload of an alternative, under one name
      pub holds_at_once : (ps : Parts) (i : ℕ) (us : List Scalar) (x x' : List ℕ) (v v' : Val) → HoldsAt world h ps i us x v → HoldsAt world h ps i us x' v' → (x ≡ x') × (v ≡ v')
      holds_at_once end i us x x' v v' r s = absurd r
      holds_at_once (part name t taken ps) zero us x x' v v' r s = (r.1 ∙ sym s.1, holds_once t (take (slots t) us) v v' r.2 s.2)
      holds_at_once (part name t taken ps) (suc i) us x x' v v' r s = holds_at_once ps i (drop (slots t) us) x x' v v' r s

    -- the same scalars represent the same value, with the same footprints
    pub represents_once : (t : Tau) (us : List Scalar) (v v' : Val) (writes reads writes' reads' : ℕ → ℕ)
        → Represents world h t us v writes reads → Represents world h t us v' writes' reads'
        → (v ≡ v') × ((q : ℕ) → (writes q ≡ writes' q) × (reads q ≡ reads' q))
    represents_once t us v v' writes reads writes' reads' r s =
        (holds_once t us v v' r.holds s.holds, λ q. (r.are_writes q ∙ sym (s.are_writes q), r.are_reads q ∙ sym (s.are_reads q)))
