-- What is read of a value has no more scalars than its type has nodes, whether it fits or not.
use Rattle.std.proofs.Common.{ℕ, zero, suc, ◌+◌, ◌≤◌, true, false, List, [], ◌∷◌, ◌++◌, length, replicate, if◌then◌else◌, arith, length-append}
use Rattle.std.proofs.lemmas.List.{length-replicate}
use Rattle.std.specs.Str.{bytes_eq}
use Rattle.cg_base.specs.declared.kind.Sigil.TheVariants.{R, W, U}
use Rattle.cg_base.specs.Types.{Tau, var, seen, unit, word, bool, arrow, abs, variant, fields, Parts, end, part}
use Rattle.cg_heap.specs.declared.cell.Scalar.{Scalar}
use Rattle.cg_heap.specs.declared.cell.Scalar.TheVariants.{Unset, Word}
use Rattle.cg_heap.proofs.Widths.{parts_within, slots_within}
use Rattle.cg_heap.specs.Reps.{slots, slots_of_parts}
use Rattle.cg_typing.specs.Parts.{nodes, nodes_parts}
use Rattle.cg_heaptext_def.specs.Reading.{scalars, scalars_all, scalars_applied, scalars_bare, skipped}
use Rattle.cg_heaptext_def.specs.Trees.{Written, numeral, truth, nothing, address, constant, applied, tuple, record', bare, listed, values_in}
use Rattle.cg_heaptext_laws.proofs.SmallValues.{one_node}

-- ---- scalars

-- so many unset ones more, at most
more_skipped : (us : List Scalar) (n : ℕ) → length (skipped us n) ≤ n + length us
more_skipped [] n = omega arith
more_skipped (u ∷ us) n = omega (arith, length-append (replicate n Unset) us, length-replicate n Unset)

bare_spread : (ps : Parts) (i : ℕ) (x : List ℕ) → length (scalars_bare ps i x) ≤ 1 + nodes_parts ps
unfolding scalars
bare_spread end i x = omega arith
bare_spread (part y t taken ps) i x =
    let one = one_node t in
    let here = slots_within t in
    let behind = parts_within ps in
    let unset = replicate (slots_of_parts ps) Unset in
    elim (bytes_eq x y) as (λ b. length (if b then Word i ∷ Word 0 ∷ unset else skipped (scalars_bare ps (suc i) x) (slots t)) ≤ 1 + nodes_parts (part y t taken ps)) [
      | true ↦ omega (arith, one, behind, length-replicate (slots_of_parts ps) Unset)
      | false ↦ omega (arith, here, more_skipped (scalars_bare ps (suc i) x) (slots t), bare_spread ps (suc i) x)
    ]

mutual
  unfolding scalars

  scalars_spread : (t : Tau) (v : Written) → length (scalars t v) ≤ nodes t
  scalars_spread unit (nothing p) = omega arith
  scalars_spread (word w) (numeral n) = omega arith
  scalars_spread bool (truth p b) = omega arith
  scalars_spread (abs name ts s) (address p n) = omega arith
  scalars_spread (variant ps) (constant p x) = let many = bare_spread ps zero x in omega (arith, many)
  scalars_spread (variant ps) (applied p x v) = let many = applied_spread ps zero x v in omega (arith, many)
  scalars_spread (fields ps U) (tuple p vs) = let many = all_spread ps (listed vs) in omega (arith, many)
  scalars_spread (fields ps U) (record' p fs) = let many = all_spread ps (values_in fs) in omega (arith, many)
  scalars_spread (fields ps R) (address p n) = omega arith
  scalars_spread (fields ps W) (address p n) = omega arith
  scalars_spread t v = omega arith

  pub all_spread : (ps : Parts) (vs : List Written) → length (scalars_all ps vs) ≤ nodes_parts ps
  all_spread (part x t true ps) (v ∷ vs) =
      let here = slots_within t in
      let rest = all_spread ps vs in
      omega (arith, here, rest, length-append (replicate (slots t) Unset) (scalars_all ps vs), length-replicate (slots t) Unset)
  all_spread (part x t false ps) (v ∷ vs) =
      let here = scalars_spread t (bare v) in
      let rest = all_spread ps vs in
      omega (arith, here, rest, length-append (scalars t (bare v)) (scalars_all ps vs))
  all_spread _ _ = omega arith

  applied_spread : (ps : Parts) (i : ℕ) (x : List ℕ) (v : Written) → length (scalars_applied ps i x v) ≤ 1 + nodes_parts ps
  applied_spread end i x v = omega arith
  applied_spread (part y t taken ps) i x v =
      let here = slots_within t in
      let behind = parts_within ps in
      let payload = scalars_spread t (bare v) in
      let unset = replicate (slots_of_parts ps) Unset in
      elim (bytes_eq x y) as (λ b. length (if b then Word i ∷ (scalars t (bare v) ++ unset) else skipped (scalars_applied ps (suc i) x v) (slots t)) ≤ 1 + nodes_parts (part y t taken ps)) [
        | true ↦ omega (arith, payload, behind, length-append (scalars t (bare v)) unset, length-replicate (slots_of_parts ps) Unset)
        | false ↦ omega (arith, here, more_skipped (scalars_applied ps (suc i) x v) (slots t), applied_spread ps (suc i) x v)
      ]
