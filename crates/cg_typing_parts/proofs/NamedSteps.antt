-- Parts by name, at what is left of a list.
use Rattle.std.proofs.Common.{◌≡◌, ℕ, ◌<◌, ◌≤◌, List, [], ◌∷◌, map, length, drop, get_or, ◌+◌, Bool, true, false, not, ◌&&◌, ◌||◌, Some, None, refl, ap, ◌∙◌, if◌then◌else◌}
use Rattle.std.specs.Str.{bytes_eq}
use Rattle.std.proofs.lemmas.List.{at_drop_more, at_drop_all}
use Rattle.cg_base.proofs.Views.{piece_of}
use Rattle.cg_base.specs.declared.ty.Part.{Part}
use Rattle.cg_base.specs.Types.{Piece, to_parts, part_of}
use Rattle.cg_typing.specs.Parts.{part_named, are_others_taken, is_whole}

-- one part more
named-none : (n : List ℕ) → part_named n (to_parts []) ≡ None
unfolding to_parts
named-none n = refl

named-more : (n : List ℕ) (p : Piece) (ps : List Piece) → part_named n (to_parts (p ∷ ps)) ≡ (if bytes_eq n p.name then Some p else part_named n (to_parts ps))
unfolding to_parts
named-more n p ps = refl

others-none : (n : List ℕ) → are_others_taken n (to_parts []) ≡ true
unfolding to_parts
others-none n = refl

others-more : (n : List ℕ) (p : Piece) (ps : List Piece) → are_others_taken n (to_parts (p ∷ ps)) ≡ ((bytes_eq n p.name || p.taken) && are_others_taken n (to_parts ps))
unfolding to_parts
others-more n p ps = refl

whole-none : is_whole (to_parts []) ≡ true
unfolding to_parts
whole-none = refl

whole-more : (p : Piece) (ps : List Piece) → is_whole (to_parts (p ∷ ps)) ≡ (not p.taken && is_whole (to_parts ps))
unfolding to_parts
whole-more p ps = refl

-- the first of a name
module _ (n : List ℕ) (ps : List Part) (i : ℕ) (d : Part) (h : i < length ps) where
  named_rest : part_named n (to_parts (map part_of (drop i ps)))
      ≡ (if bytes_eq n (get_or ps i d).name then Some (part_of (get_or ps i d)) else part_named n (to_parts (map part_of (drop (i + 1) ps))))
  named_rest =
      at_drop_more (λ l. part_named n (to_parts (map part_of l))) ps i d h ∙ named-more n _ _
      ∙ ap (λ p. if bytes_eq n p.name then Some (part_of (get_or ps i d)) else part_named n (to_parts (map part_of (drop (i + 1) ps)))) (piece_of (get_or ps i d))

  others_rest : are_others_taken n (to_parts (map part_of (drop i ps)))
      ≡ ((bytes_eq n (get_or ps i d).name || (get_or ps i d).taken) && are_others_taken n (to_parts (map part_of (drop (i + 1) ps))))
  others_rest =
      at_drop_more (λ l. are_others_taken n (to_parts (map part_of l))) ps i d h ∙ others-more n _ _
      ∙ ap (λ p. (bytes_eq n p.name || p.taken) && are_others_taken n (to_parts (map part_of (drop (i + 1) ps)))) (piece_of (get_or ps i d))

module _ (ps : List Part) (i : ℕ) (d : Part) (h : i < length ps) where
  whole_rest : is_whole (to_parts (map part_of (drop i ps))) ≡ (not (get_or ps i d).taken && is_whole (to_parts (map part_of (drop (i + 1) ps))))
  whole_rest =
      at_drop_more (λ l. is_whole (to_parts (map part_of l))) ps i d h ∙ whole-more _ _
      ∙ ap (λ p. not p.taken && is_whole (to_parts (map part_of (drop (i + 1) ps)))) (piece_of (get_or ps i d))

pub named_here : (n : List ℕ) (ps : List Part) (i : ℕ) (d : Part) → i < length ps → bytes_eq n (get_or ps i d).name ≡ true
    → part_named n (to_parts (map part_of (drop i ps))) ≡ Some (part_of (get_or ps i d))
named_here n ps i d h e =
    named_rest n ps i d h ∙ ap (λ b. if b then Some (part_of (get_or ps i d)) else part_named n (to_parts (map part_of (drop (i + 1) ps)))) e

pub named_later : (n : List ℕ) (ps : List Part) (i : ℕ) (d : Part) → i < length ps → bytes_eq n (get_or ps i d).name ≡ false
    → part_named n (to_parts (map part_of (drop i ps))) ≡ part_named n (to_parts (map part_of (drop (i + 1) ps)))
named_later n ps i d h e =
    named_rest n ps i d h ∙ ap (λ b. if b then Some (part_of (get_or ps i d)) else part_named n (to_parts (map part_of (drop (i + 1) ps)))) e

pub named_past : (n : List ℕ) (ps : List Part) (i : ℕ) → length ps ≤ i → part_named n (to_parts (map part_of (drop i ps))) ≡ None
named_past n ps i h = at_drop_all (λ l. part_named n (to_parts (map part_of l))) ps i h ∙ named-none n

-- whether the others are taken
pub others_named : (n : List ℕ) (ps : List Part) (i : ℕ) (d : Part) → i < length ps → bytes_eq n (get_or ps i d).name ≡ true
    → are_others_taken n (to_parts (map part_of (drop i ps))) ≡ are_others_taken n (to_parts (map part_of (drop (i + 1) ps)))
others_named n ps i d h e = others_rest n ps i d h ∙ ap (λ b. (b || (get_or ps i d).taken) && are_others_taken n (to_parts (map part_of (drop (i + 1) ps)))) e

pub others_later : (n : List ℕ) (ps : List Part) (i : ℕ) (d : Part) → i < length ps → (get_or ps i d).taken ≡ true
    → are_others_taken n (to_parts (map part_of (drop i ps))) ≡ are_others_taken n (to_parts (map part_of (drop (i + 1) ps)))
others_later n ps i d h e =
    others_rest n ps i d h
    ∙ ap (λ b. (bytes_eq n (get_or ps i d).name || b) && are_others_taken n (to_parts (map part_of (drop (i + 1) ps)))) e
    ∙ ap (λ b. b && are_others_taken n (to_parts (map part_of (drop (i + 1) ps)))) (or_true (bytes_eq n (get_or ps i d).name))
  where
    or_true : (b : Bool) → (b || true) ≡ true
    or_true true = refl
    or_true false = refl

pub others_left : (n : List ℕ) (ps : List Part) (i : ℕ) (d : Part) → i < length ps → bytes_eq n (get_or ps i d).name ≡ false → (get_or ps i d).taken ≡ false
    → are_others_taken n (to_parts (map part_of (drop i ps))) ≡ false
others_left n ps i d h e f =
    others_rest n ps i d h
    ∙ ap (λ b. (b || (get_or ps i d).taken) && are_others_taken n (to_parts (map part_of (drop (i + 1) ps)))) e
    ∙ ap (λ b. b && are_others_taken n (to_parts (map part_of (drop (i + 1) ps)))) f

pub others_past : (n : List ℕ) (ps : List Part) (i : ℕ) → length ps ≤ i → are_others_taken n (to_parts (map part_of (drop i ps))) ≡ true
others_past n ps i h = at_drop_all (λ l. are_others_taken n (to_parts (map part_of l))) ps i h ∙ others-none n

-- whether none is taken
pub whole_later : (ps : List Part) (i : ℕ) (d : Part) → i < length ps → (get_or ps i d).taken ≡ false
    → is_whole (to_parts (map part_of (drop i ps))) ≡ is_whole (to_parts (map part_of (drop (i + 1) ps)))
whole_later ps i d h e = whole_rest ps i d h ∙ ap (λ b. not b && is_whole (to_parts (map part_of (drop (i + 1) ps)))) e

pub whole_taken : (ps : List Part) (i : ℕ) (d : Part) → i < length ps → (get_or ps i d).taken ≡ true → is_whole (to_parts (map part_of (drop i ps))) ≡ false
whole_taken ps i d h e = whole_rest ps i d h ∙ ap (λ b. not b && is_whole (to_parts (map part_of (drop (i + 1) ps)))) e

pub whole_past : (ps : List Part) (i : ℕ) → length ps ≤ i → is_whole (to_parts (map part_of (drop i ps))) ≡ true
whole_past ps i h = at_drop_all (λ l. is_whole (to_parts (map part_of l))) ps i h ∙ whole-none

pub ruleset named_steps = (named_here, named_later, named_past)

pub ruleset others_steps = (others_named, others_later, others_left, others_past)

pub ruleset whole_steps = (whole_later, whole_taken, whole_past)
