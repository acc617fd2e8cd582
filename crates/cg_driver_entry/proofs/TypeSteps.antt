-- What types hold, at what is left of a list.
use Rattle.std.proofs.Common.{◌≡◌, ℕ, ◌<◌, ◌≤◌, List, [], ◌∷◌, map, length, drop, get_or, ◌+◌, Bool, true, false, ◌||◌, refl, ap, ◌∙◌}
use Rattle.std.proofs.lemmas.List.{at_drop_more, at_drop_all}
use Rattle.cg_base.proofs.Views.{piece_of}
use Rattle.cg_base.specs.declared.ty.Part.{Part}
use Rattle.cg_base.specs.declared.ty.Ty.{Ty}
use Rattle.cg_base.specs.Types.{to_taus, to_parts, type_of, part_of}
use Rattle.cg_driver_entry.specs.Types.{holds_closed, have_closed, parts_hold_closed}

-- what holds of some item, where a definition asks it of one after the other
module _ {X : Type 0} (some : List X → Bool) (one : X → Bool) (none : some [] ≡ false) (more : (x : X) (xs : List X) → some (x ∷ xs) ≡ (one x || some xs)) where
  some_step : (xs : List X) (i : ℕ) (d : X) (b : Bool) → i < length xs → one (get_or xs i d) ≡ b → some (drop i xs) ≡ (b || some (drop (i + 1) xs))
  some_step xs i d b h e = at_drop_more some xs i d h ∙ more _ _ ∙ ap (λ c. c || some (drop (i + 1) xs)) e

  some_past : (xs : List X) (i : ℕ) → length xs ≤ i → some (drop i xs) ≡ false
  some_past xs i h = at_drop_all some xs i h ∙ none

-- the types of a list
abbrev any_closed : List Ty → Bool
any_closed ts = have_closed (to_taus (map type_of ts))

closed-none : any_closed [] ≡ false
unfolding to_taus
closed-none = refl

closed-more : (t : Ty) (ts : List Ty) → any_closed (t ∷ ts) ≡ (holds_closed (type_of t) || any_closed ts)
unfolding to_taus
closed-more t ts = refl

pub closed_later : (ts : List Ty) (i : ℕ) (d : Ty) → i < length ts → holds_closed (type_of (get_or ts i d)) ≡ false
    → have_closed (to_taus (map type_of (drop i ts))) ≡ have_closed (to_taus (map type_of (drop (i + 1) ts)))
closed_later ts i d h e = some_step any_closed (λ t. holds_closed (type_of t)) closed-none closed-more ts i d false h e

pub closed_here : (ts : List Ty) (i : ℕ) (d : Ty) → i < length ts → holds_closed (type_of (get_or ts i d)) ≡ true → have_closed (to_taus (map type_of (drop i ts))) ≡ true
closed_here ts i d h e = some_step any_closed (λ t. holds_closed (type_of t)) closed-none closed-more ts i d true h e

pub closed_past : (ts : List Ty) (i : ℕ) → length ts ≤ i → have_closed (to_taus (map type_of (drop i ts))) ≡ false
closed_past ts i h = some_past any_closed (λ t. holds_closed (type_of t)) closed-none closed-more ts i h

pub ruleset closed_steps = (closed_later, closed_here, closed_past)

-- the types of parts
abbrev any_part_closed : List Part → Bool
any_part_closed ps = parts_hold_closed (to_parts (map part_of ps))

part_closed-none : any_part_closed [] ≡ false
unfolding to_parts
part_closed-none = refl

part_closed-more : (p : Part) (ps : List Part) → any_part_closed (p ∷ ps) ≡ (holds_closed (type_of p.ty) || any_part_closed ps)
unfolding to_parts
part_closed-more p ps = ap (λ q. holds_closed q.ty || any_part_closed ps) (piece_of p)

pub part_closed_later : (ps : List Part) (i : ℕ) (d : Part) → i < length ps → holds_closed (type_of (get_or ps i d).ty) ≡ false
    → parts_hold_closed (to_parts (map part_of (drop i ps))) ≡ parts_hold_closed (to_parts (map part_of (drop (i + 1) ps)))
part_closed_later ps i d h e = some_step any_part_closed (λ p. holds_closed (type_of p.ty)) part_closed-none part_closed-more ps i d false h e

pub part_closed_here : (ps : List Part) (i : ℕ) (d : Part) → i < length ps → holds_closed (type_of (get_or ps i d).ty) ≡ true → parts_hold_closed (to_parts (map part_of (drop i ps))) ≡ true
part_closed_here ps i d h e = some_step any_part_closed (λ p. holds_closed (type_of p.ty)) part_closed-none part_closed-more ps i d true h e

pub part_closed_past : (ps : List Part) (i : ℕ) → length ps ≤ i → parts_hold_closed (to_parts (map part_of (drop i ps))) ≡ false
part_closed_past ps i h = some_past any_part_closed (λ p. holds_closed (type_of p.ty)) part_closed-none part_closed-more ps i h

pub ruleset part_closed_steps = (part_closed_later, part_closed_here, part_closed_past)
