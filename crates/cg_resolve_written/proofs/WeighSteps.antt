-- Weighed lists, an item further.
use Rattle.std.proofs.Common.{◌≡◌, ℕ, ◌+◌, ◌<◌, List, [], ◌∷◌, ◌++◌, length, map, take, get_or, refl, ap, ◌∙◌, arith}
use Rattle.std.proofs.lemmas.List.{map-append, take_more}
use Rattle.cg_base.proofs.Views.{piece_of}
use Rattle.cg_base.specs.declared.ty.Part.{Part}
use Rattle.cg_base.specs.declared.ty.Ty.{Ty, the_lemmas}
use Rattle.cg_base.specs.Types.{Tau, Piece, to_taus, to_parts, type_of, part_of}
use Rattle.cg_resolve_written.specs.Sizes.{weighed, weighed_all, weighed_parts}

weighed_behind : (sizes : List ℕ) (ts : List Tau) (t : Tau) → weighed_all sizes (to_taus (ts ++ t ∷ [])) ≡ weighed_all sizes (to_taus ts) + weighed sizes t
unfolding weighed to_taus
weighed_behind sizes [] t = omega arith
weighed_behind sizes (u ∷ ts) t = omega (arith, weighed_behind sizes ts t)

parts_behind : (sizes : List ℕ) (ps : List Piece) (p : Piece) → weighed_parts sizes (to_parts (ps ++ p ∷ [])) ≡ weighed_parts sizes (to_parts ps) + weighed sizes p.ty
unfolding weighed to_parts
parts_behind sizes [] p = omega arith
parts_behind sizes (q ∷ ps) p = omega (arith, parts_behind sizes ps p)

-- each says first that the item is itself, so that `grind` finds it where the item is read
pub weighed_at : (sizes : List ℕ) (ts : List Ty) (i : ℕ) (d : Ty) → i < length ts → (get_or ts i d ≡ get_or ts i d)
    × (weighed_all sizes (to_taus (map type_of (take (i + 1) ts))) ≡ weighed_all sizes (to_taus (map type_of (take i ts))) + weighed sizes (type_of (get_or ts i d)))
weighed_at sizes ts i d lt = (
  refl,
  ap (λ l. weighed_all sizes (to_taus (map type_of l))) (take_more ts i d lt) ∙ ap (λ l. weighed_all sizes (to_taus l)) (map-append type_of (take i ts) (get_or ts i d ∷ []))
      ∙ weighed_behind sizes (map type_of (take i ts)) (type_of (get_or ts i d)),
)

pub parts_at : (sizes : List ℕ) (ps : List Part) (i : ℕ) (d : Part) → i < length ps → (get_or ps i d ≡ get_or ps i d)
    × (weighed_parts sizes (to_parts (map part_of (take (i + 1) ps))) ≡ weighed_parts sizes (to_parts (map part_of (take i ps))) + weighed sizes (type_of (get_or ps i d).ty))
parts_at sizes ps i d lt = (
  refl,
  ap (λ l. weighed_parts sizes (to_parts (map part_of l))) (take_more ps i d lt) ∙ ap (λ l. weighed_parts sizes (to_parts l)) (map-append part_of (take i ps) (get_or ps i d ∷ []))
      ∙ parts_behind sizes (map part_of (take i ps)) (part_of (get_or ps i d)) ∙ ap (λ (p : Piece). weighed_parts sizes (to_parts (map part_of (take i ps))) + weighed sizes p.ty) (piece_of (get_or ps i d)),
)

pub weighed_none : (sizes : List ℕ) → weighed_all sizes (to_taus []) ≡ 0
unfolding weighed to_taus
weighed_none sizes = refl

pub parts_none : (sizes : List ℕ) → weighed_parts sizes (to_parts []) ≡ 0
unfolding weighed to_parts
parts_none sizes = refl

pub ruleset weigh_steps = (weighed_at, parts_at, weighed_none, parts_none, the_lemmas)
