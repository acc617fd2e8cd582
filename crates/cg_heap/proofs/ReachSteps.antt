-- What is reached part by part.
use Rattle.std.proofs.Common.{◌≡◌, ◌≢◌, ◌<◌, ◌≤◌, ◌+◌, ◌-◌, ◌++◌, ℕ, zero, suc, cond, List, [], ◌∷◌, length, take, drop, get_or, map, refl, ap, ◌∙◌, arith}
use Rattle.std.proofs.lemmas.List.{at_drop_more, at_drop_all}
use Rattle.cg_base.proofs.Views.{piece_of}
use Rattle.cg_base.specs.declared.kind.Sigil.{Sigil}
use Rattle.cg_base.specs.declared.ty.Part.{Part, the_lemmas}
use Rattle.cg_base.specs.Types.{Piece, part_of, to_parts, type_of}
use Rattle.cg_heap.specs.declared.cell.Scalar.{Scalar}
use Rattle.cg_heap.specs.Reps.{Heap, slots}
use Rattle.cg_heap.specs.Addresses.{reached, reached_all, reached_at}

module _ (h : Heap) (m : Sigil) where
  -- fields
  pub all_more : (ps : List Part) (us : List Scalar) (i : ℕ) (d : Part) → i < length ps
      → reached_all h m (to_parts (map part_of (drop i ps))) us
      ≡ cond (get_or ps i d).taken [] (reached h m (type_of (get_or ps i d).ty) (take (slots (type_of (get_or ps i d).ty)) us)) ++ reached_all h m (to_parts (map part_of (drop (i + 1) ps))) (drop (slots (type_of (get_or ps i d).ty)) us)
  unfolding reached to_parts
  all_more ps us i d w =
      at_drop_more (λ l. reached_all h m (to_parts (map part_of l)) us) ps i d w
      ∙ ap (λ q. cond q.taken [] (reached h m q.ty (take (slots q.ty) us)) ++ reached_all h m (to_parts (map part_of (drop (i + 1) ps))) (drop (slots q.ty) us)) (piece_of (get_or ps i d))

  pub all_past : (ps : List Part) (us : List Scalar) (i : ℕ) → length ps ≤ i → reached_all h m (to_parts (map part_of (drop i ps))) us ≡ []
  unfolding reached to_parts
  all_past ps us i w = at_drop_all (λ l. reached_all h m (to_parts (map part_of l)) us) ps i w

  -- alternatives
  other_place : (p : Piece) (ps : List Piece) (n : ℕ) (us : List Scalar) → n ≢ 0 → reached_at h m (to_parts (p ∷ ps)) n us ≡ reached_at h m (to_parts ps) (n - 1) (drop (slots p.ty) us)
  unfolding reached to_parts
  other_place p ps zero us w = absurd (w refl)
  other_place p ps (suc n) us w = let e : suc n - 1 ≡ n = omega arith in rw e refl

  pub chosen_here : (ps : List Part) (us : List Scalar) (i : ℕ) (d : Part) → i < length ps
      → reached_at h m (to_parts (map part_of (drop i ps))) 0 us ≡ cond (get_or ps i d).taken [] (reached h m (type_of (get_or ps i d).ty) (take (slots (type_of (get_or ps i d).ty)) us))
  unfolding reached to_parts
  chosen_here ps us i d w =
      at_drop_more (λ l. reached_at h m (to_parts (map part_of l)) 0 us) ps i d w
      ∙ ap (λ q. cond q.taken [] (reached h m q.ty (take (slots q.ty) us))) (piece_of (get_or ps i d))

  pub chosen_more : (ps : List Part) (us : List Scalar) (i n : ℕ) (d : Part) → i < length ps → n ≢ 0
      → reached_at h m (to_parts (map part_of (drop i ps))) n us ≡ reached_at h m (to_parts (map part_of (drop (i + 1) ps))) (n - 1) (drop (slots (type_of (get_or ps i d).ty)) us)
  chosen_more ps us i n d w other =
      at_drop_more (λ l. reached_at h m (to_parts (map part_of l)) n us) ps i d w
      ∙ other_place (part_of (get_or ps i d)) (map part_of (drop (i + 1) ps)) n us other
      ∙ ap (λ q. reached_at h m (to_parts (map part_of (drop (i + 1) ps))) (n - 1) (drop (slots q.ty) us)) (piece_of (get_or ps i d))

  pub chosen_past : (ps : List Part) (us : List Scalar) (i n : ℕ) → length ps ≤ i → reached_at h m (to_parts (map part_of (drop i ps))) n us ≡ []
  unfolding reached to_parts
  chosen_past ps us i n w = at_drop_all (λ l. reached_at h m (to_parts (map part_of l)) n us) ps i w

pub ruleset reach_steps = (all_more, all_past, chosen_here, chosen_more, chosen_past, the_lemmas)
