-- The alternative of a name, where it stands without a payload.
use Rattle.std.proofs.Common.{◌≡◌, ℕ, ◌+◌, ◌<◌, ◌≤◌, true, false, ◌&&◌, not, List, [], ◌∷◌, length, drop, get_or, Option, if◌then◌else◌, sym, ap, ◌∙◌}
use Rattle.std.proofs.lemmas.List.{at_drop_all, at_drop_more}
use Rattle.std.specs.Str.{bytes_eq}
use Rattle.cg_base.proofs.Views.{piece_of}
use Rattle.cg_base.specs.declared.place.Place.{Place}
use Rattle.cg_base.specs.declared.ty.Part.{Part}
use Rattle.cg_base.specs.Types.{Piece, to_parts, type_of}
use Rattle.cg_value.specs.Printed.{is_unit}
use Rattle.cg_heaptext_def.specs.Reading.{Event, misfit, events, events_bare}
use Rattle.cg_heaptext_def.specs.Trees.{Cell}
use Rattle.cg_heaptext_judge_steps.specs.Steps.{pieces}

module _ (cells : ℕ → Option Cell) (at : Place) (x : List ℕ) where
  abbrev pub bare_here : Part → List Event
  bare_here p = if not p.taken && is_unit (type_of p.ty) then [] else misfit at ∷ []

  bare_split : (p : Part) (ps : List Part) → events_bare cells (pieces (p ∷ ps)) at x ≡ (if bytes_eq x p.name then bare_here p else events_bare cells (pieces ps) at x)
  unfolding events to_parts
  bare_split p ps =
      ap (λ (q : Piece). if bytes_eq x q.name then (if not q.taken && is_unit q.ty then [] else misfit at ∷ []) else events_bare cells (pieces ps) at x) (piece_of p)

  bare_next : (ps : List Part) (i : ℕ) (p : Part) → i < length ps → p ≡ get_or ps i p
      → events_bare cells (pieces (drop i ps)) at x ≡ (if bytes_eq x p.name then bare_here p else events_bare cells (pieces (drop (i + 1) ps)) at x)
  bare_next ps i p within is =
      at_drop_more (λ l. events_bare cells (pieces l) at x) ps i p within
      ∙ bare_split (get_or ps i p) (drop (i + 1) ps)
      ∙ ap (λ (q : Part). if bytes_eq x q.name then bare_here q else events_bare cells (pieces (drop (i + 1) ps)) at x) (sym is)

  module _ (ps : List Part) (i : ℕ) (left : events_bare cells (pieces (drop i ps)) at x ≡ events_bare cells (pieces ps) at x) where
    pub bare_found : (p : Part) → i < length ps → p ≡ get_or ps i p → bytes_eq x p.name ≡ true → events_bare cells (pieces ps) at x ≡ bare_here p
    bare_found p within is e =
        sym left ∙ bare_next ps i p within is ∙ ap (λ b. if b then bare_here p else events_bare cells (pieces (drop (i + 1) ps)) at x) e

    pub bare_passed : (p : Part) → i < length ps → p ≡ get_or ps i p → bytes_eq x p.name ≡ false → events_bare cells (pieces (drop (i + 1) ps)) at x ≡ events_bare cells (pieces ps) at x
    bare_passed p within is e =
        sym (bare_next ps i p within is ∙ ap (λ b. if b then bare_here p else events_bare cells (pieces (drop (i + 1) ps)) at x) e) ∙ left

    pub bare_over : length ps ≤ i → events_bare cells (pieces ps) at x ≡ misfit at ∷ []
    unfolding events to_parts
    bare_over over = sym left ∙ at_drop_all (λ l. events_bare cells (pieces l) at x) ps i over
