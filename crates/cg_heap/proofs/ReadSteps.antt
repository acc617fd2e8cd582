-- What is read part by part.
use Rattle.std.proofs.Common.{◌≡◌, ◌≢◌, ◌<◌, ◌≤◌, ◌+◌, ◌-◌, ℕ, zero, suc, cond, List, [], ◌∷◌, length, take, drop, get_or, map, refl, ap, ◌∙◌, arith}
use Rattle.std.proofs.lemmas.List.{at_drop_more, at_drop_all}
use Rattle.cg_base.proofs.Views.{piece_of}
use Rattle.cg_base.specs.declared.ty.Part.{Part, the_lemmas}
use Rattle.cg_base.specs.Types.{Piece, part_of, to_parts, to_taus, type_of}
use Rattle.cg_base.specs.declared.ty.Ty.{Ty}
use Rattle.std.specs.declared.option.Option.{Option}
use Rattle.cg_heap.specs.declared.cell.Cell.{Cell}
use Rattle.cg_heap.specs.declared.cell.Scalar.{Scalar}
use Rattle.cg_heap.specs.Readings.{abstract_at, alternative_at, held_scalars, value_at, values_at}
use Rattle.cg_heap.specs.Reps.{Heap, number_of, slots}
use Rattle.cg_value.specs.Values.{chosen, elements, gone}

module _ (h : Heap) where
  -- fields
  pub fields_more : (ps : List Part) (us : List Scalar) (i : ℕ) (d : Part) → i < length ps
      → values_at h (to_parts (map part_of (drop i ps))) us
      ≡ cond (get_or ps i d).taken gone (value_at h (type_of (get_or ps i d).ty) (take (slots (type_of (get_or ps i d).ty)) us)) ∷ values_at h (to_parts (map part_of (drop (i + 1) ps))) (drop (slots (type_of (get_or ps i d).ty)) us)
  unfolding value_at to_parts
  fields_more ps us i d w =
      at_drop_more (λ l. values_at h (to_parts (map part_of l)) us) ps i d w
      ∙ ap (λ q. cond q.taken gone (value_at h q.ty (take (slots q.ty) us)) ∷ values_at h (to_parts (map part_of (drop (i + 1) ps))) (drop (slots q.ty) us)) (piece_of (get_or ps i d))

  pub fields_past : (ps : List Part) (us : List Scalar) (i : ℕ) → length ps ≤ i → values_at h (to_parts (map part_of (drop i ps))) us ≡ []
  unfolding value_at to_parts
  fields_past ps us i w = at_drop_all (λ l. values_at h (to_parts (map part_of l)) us) ps i w

  -- alternatives
  other_place : (p : Piece) (ps : List Piece) (n : ℕ) (us : List Scalar) → n ≢ 0 → alternative_at h (to_parts (p ∷ ps)) n us ≡ alternative_at h (to_parts ps) (n - 1) (drop (slots p.ty) us)
  unfolding value_at to_parts
  other_place p ps zero us w = absurd (w refl)
  other_place p ps (suc n) us w = let e : suc n - 1 ≡ n = omega arith in rw e refl

  pub alternative_here : (ps : List Part) (us : List Scalar) (i : ℕ) (d : Part) → i < length ps
      → alternative_at h (to_parts (map part_of (drop i ps))) 0 us ≡ chosen (get_or ps i d).name (value_at h (type_of (get_or ps i d).ty) (take (slots (type_of (get_or ps i d).ty)) us))
  unfolding value_at to_parts
  alternative_here ps us i d w =
      at_drop_more (λ l. alternative_at h (to_parts (map part_of l)) 0 us) ps i d w
      ∙ ap (λ q. chosen q.name (value_at h q.ty (take (slots q.ty) us))) (piece_of (get_or ps i d))

  pub alternative_more : (ps : List Part) (us : List Scalar) (i n : ℕ) (d : Part) → i < length ps → n ≢ 0
      → alternative_at h (to_parts (map part_of (drop i ps))) n us ≡ alternative_at h (to_parts (map part_of (drop (i + 1) ps))) (n - 1) (drop (slots (type_of (get_or ps i d).ty)) us)
  alternative_more ps us i n d w other =
      at_drop_more (λ l. alternative_at h (to_parts (map part_of l)) n us) ps i d w
      ∙ other_place (part_of (get_or ps i d)) (map part_of (drop (i + 1) ps)) n us other
      ∙ ap (λ q. alternative_at h (to_parts (map part_of (drop (i + 1) ps))) (n - 1) (drop (slots q.ty) us)) (piece_of (get_or ps i d))

  pub alternative_past : (ps : List Part) (us : List Scalar) (i n : ℕ) → length ps ≤ i → alternative_at h (to_parts (map part_of (drop i ps))) n us ≡ gone
  unfolding value_at to_parts
  alternative_past ps us i n w = at_drop_all (λ l. alternative_at h (to_parts (map part_of l)) n us) ps i w

-- an abstract type with arguments is an array
pub elements_at : (ts : List Ty) (o : Option Cell) → 1 ≤ length ts → abstract_at (to_taus (map type_of ts)) o ≡ elements (map number_of (held_scalars o))
unfolding to_taus
elements_at [] o some = absurd (omega (arith, some))
elements_at (t ∷ ts) o some = refl

pub ruleset read_steps = (fields_more, fields_past, alternative_here, alternative_more, alternative_past, the_lemmas)
