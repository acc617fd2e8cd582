-- What is read of a value is small, where each number that is met is below its bound and a machine word holds each address that is mentioned.
use Rattle.std.proofs.Common.{◌≡◌, ℕ, zero, suc, ◌+◌, ◌<◌, ◌≤◌, ◌^◌, true, false, ◌&&◌, List, [], ◌∷◌, ◌++◌, replicate, Option, if◌then◌else◌, refl, arith}
use Rattle.std.specs.Str.{bytes_eq}
use Rattle.cg_base.specs.declared.kind.Sigil.TheVariants.{R, W, U}
use Rattle.cg_base.specs.declared.place.Place.{Place}
use Rattle.cg_base.specs.Types.{Tau, var, seen, unit, word, bool, arrow, abs, variant, fields, Parts, end, part}
use Rattle.cg_heap.specs.declared.cell.Scalar.TheVariants.{Unset, Word, Address}
use Rattle.cg_heap.specs.Reps.{slots, slots_of_parts}
use Rattle.cg_typing.specs.Parts.{nodes, nodes_parts}
use Rattle.cg_value.specs.Printed.{is_tuple}
use Rattle.cg_heaptext_def.specs.Reading.{Event, misfit, counted, mention, as_many, bit_number, events, events_all, events_applied, have_names, is_gone, scalars, scalars_all, scalars_applied, scalars_bare, skipped}
use Rattle.cg_heaptext_def.specs.Small.{are_small}
use Rattle.cg_heaptext_def.specs.Trees.{amount, Written, numeral, truth, nothing, address, constant, applied, tuple, record', Cell, first, bare, listed, values_in, names_in}
use Rattle.cg_heaptext_laws.proofs.Each.{Each, each_false, each_left, each_right, each_true}
use Rattle.cg_heaptext_laws.proofs.SmallScalars.{small_address, small_bit, small_both, small_more, small_skipped, small_unset, small_word, widest}

-- no misfit, a number below its bound, or a mention of an address that a machine word holds
abbrev pub IsNarrow : Event → Type 0
IsNarrow (misfit p) = ⊥
IsNarrow (counted n bound) = amount n < bound
IsNarrow (mention p q t) = q < 2 ^ 64

-- a type has a node
pub one_node : (t : Tau) → 1 ≤ nodes t
one_node (var n) = omega arith
one_node (seen n) = omega arith
one_node unit = omega arith
one_node (word w) = omega arith
one_node bool = omega arith
one_node (arrow a b) = omega arith
one_node (abs name ts s) = omega arith
one_node (variant ps) = omega arith
one_node (fields ps s) = omega arith

-- an alternative that stands bare, of which this many stand before the first of these
small_bare : (ps : Parts) (i : ℕ) (x : List ℕ) → i + nodes_parts ps ≤ 1024 → are_small (scalars_bare ps i x) ≡ true
unfolding scalars
small_bare end i x h = refl
small_bare (part y t taken ps) i x h =
    let one = one_node t in
    let unset = replicate (slots_of_parts ps) Unset in
    elim (bytes_eq x y) as (λ b. are_small (if b then Word i ∷ Word 0 ∷ unset else skipped (scalars_bare ps (suc i) x) (slots t)) ≡ true) [
      | true ↦ small_more (Word i) (Word 0 ∷ unset) (small_word i (omega arith)) (small_unset (slots_of_parts ps))
      | false ↦ small_skipped (scalars_bare ps (suc i) x) (slots t) (small_bare ps (suc i) x (omega arith))
    ]

module _ (cells : ℕ → Option Cell) where
  mutual
    unfolding events scalars

    -- a value
    pub small_value : (t : Tau) (at : Place) (v : Written) → nodes t ≤ 1024 → Each IsNarrow (events cells t at v) → are_small (scalars t v) ≡ true
    small_value unit at (nothing p) h f = refl
    small_value (word w) at (numeral n) h f = small_more (Word (amount n)) [] (small_word (amount n) (widest w (amount n) f.0)) refl
    small_value bool at (truth p b) h f = small_more (Word (bit_number b)) [] (small_bit b) refl
    small_value (abs name ts R) at (address p n) h f = small_more (Address (amount n)) [] (small_address (amount n) f.0) refl
    small_value (abs name ts W) at (address p n) h f = small_more (Address (amount n)) [] (small_address (amount n) f.0) refl
    small_value (variant ps) at (constant p x) h f = small_bare ps zero x (omega arith)
    small_value (variant ps) at (applied p x v) h f = small_applied ps at zero x v (omega arith) f
    small_value (fields ps U) at (tuple p vs) h f =
        let xs = listed vs in
        small_all ps xs (omega arith) (each_true IsNarrow (is_tuple ps U && as_many ps xs) (events_all cells ps xs) (misfit at ∷ []) (λ g. g.0) f).1
    small_value (fields ps U) at (record' p fs) h f =
        let xs = values_in fs in
        small_all ps xs (omega arith) (each_true IsNarrow (have_names ps (names_in fs)) (events_all cells ps xs) (misfit at ∷ []) (λ g. g.0) f).1
    small_value (fields ps R) at (address p n) h f = small_more (Address (amount n)) [] (small_address (amount n) f.0) refl
    small_value (fields ps W) at (address p n) h f = small_more (Address (amount n)) [] (small_address (amount n) f.0) refl
    small_value t at v h f = absurd f.0

    -- fields
    pub small_all : (ps : Parts) (vs : List Written) → nodes_parts ps ≤ 1024 → Each IsNarrow (events_all cells ps vs) → are_small (scalars_all ps vs) ≡ true
    small_all (part x t true ps) (v ∷ vs) h f =
        let here = if is_gone (bare v) then [] else misfit (first v) ∷ [] in
        let rest = small_all ps vs (omega arith) (each_right IsNarrow here (events_all cells ps vs) f) in
        small_both (replicate (slots t) Unset) (scalars_all ps vs) (small_unset (slots t)) rest
    small_all (part x t false ps) (v ∷ vs) h f =
        let here = events cells t (first v) (bare v) in
        let one = small_value t (first v) (bare v) (omega arith) (each_left IsNarrow here (events_all cells ps vs) f) in
        let rest = small_all ps vs (omega arith) (each_right IsNarrow here (events_all cells ps vs) f) in
        small_both (scalars t (bare v)) (scalars_all ps vs) one rest
    small_all _ _ h f = refl

    -- an alternative with its payload
    small_applied : (ps : Parts) (at : Place) (i : ℕ) (x : List ℕ) (v : Written) → i + nodes_parts ps ≤ 1024 → Each IsNarrow (events_applied cells ps at x v)
        → are_small (scalars_applied ps i x v) ≡ true
    small_applied end at i x v h f = refl
    small_applied (part y t taken ps) at i x v h f =
        let one = one_node t in
        let here = events cells t (first v) (bare v) in
        let us = scalars t (bare v) ++ replicate (slots_of_parts ps) Unset in
        elim (bytes_eq x y) as (λ b. Each IsNarrow (if b then (if taken then misfit at ∷ [] else here) else events_applied cells ps at x v)
        → are_small (if b then Word i ∷ us else skipped (scalars_applied ps (suc i) x v) (slots t)) ≡ true) [
          | true ↦ λ g.
              let payload = small_value t (first v) (bare v) (omega arith) (each_false IsNarrow taken (misfit at ∷ []) here (λ k. k.0) g).1 in
              let rest = small_both (scalars t (bare v)) (replicate (slots_of_parts ps) Unset) payload (small_unset (slots_of_parts ps)) in
              small_more (Word i) us (small_word i (omega arith)) rest
          | false ↦ λ g. small_skipped (scalars_applied ps (suc i) x v) (slots t) (small_applied ps at (suc i) x v (omega arith) g)
        ] f
