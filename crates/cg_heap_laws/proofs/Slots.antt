-- The scalars of a type are as many as its slots.
use Rattle.std.proofs.Common.{◌≡◌, true, false, List, length, drop, ap, arith}
use Rattle.std.proofs.lemmas.List.{length-drop}
use Rattle.cg_base.specs.declared.kind.Sigil.TheVariants.{R, W, U}
use Rattle.cg_base.specs.Types.{Tau, var, seen, unit, word, bool, arrow, abs, variant, fields, Parts, end, part}
use Rattle.cg_heap.specs.declared.cell.Scalar.{Scalar}
use Rattle.cg_heap.specs.Reps.{Heap, HeapWorld, Holds, HoldsAll, slots, slots_of_parts}
use Rattle.cg_value.specs.Values as values
use Rattle.cg_value.specs.Values.{Val, Vals}

module _ (world : HeapWorld) (h : Heap) where
  mutual
    unfolding Holds slots

    -- what represents a value of a type has as many scalars as the type has slots
    pub holds_slots : (t : Tau) (us : List Scalar) (v : Val) → Holds world h t us v → length us ≡ slots t
    holds_slots (var n) us v r = absurd r
    holds_slots (seen n) us v r = absurd r
    holds_slots unit us v r = ap length r.0
    holds_slots (word w) us v r = ap length r.0
    holds_slots bool us v r = ap length r.0
    holds_slots (arrow a b) us v r = ap length r.0
    holds_slots (abs name args sigil) us v r = ap length r.1.0
    holds_slots (variant ps) us v r = let e = ap length r.2 in let f = r.3 in omega arith
    holds_slots (fields ps U) us v r = holds_all_slots ps us r.0 r.2
    holds_slots (fields ps R) us v r = ap length r.1.0.0
    holds_slots (fields ps W) us v r = ap length r.1.0.0

    -- and what represents fields as many as these have
    pub holds_all_slots : (ps : Parts) (us : List Scalar) (vs : Vals) → HoldsAll world h ps us vs → length us ≡ slots_of_parts ps
    holds_all_slots end us values.none r = ap length r
    holds_all_slots end us (values.more v vs) r = absurd r
    holds_all_slots (part name t taken ps) us values.none r = absurd r
    holds_all_slots (part name t true ps) us (values.more v vs) r = let e = holds_all_slots ps (drop (slots t) us) vs r.2 in let k = r.0 in omega (arith, length-drop (slots t) us)
    holds_all_slots (part name t false ps) us (values.more v vs) r = let e = holds_all_slots ps (drop (slots t) us) vs r.2 in let k = r.0 in omega (arith, length-drop (slots t) us)
