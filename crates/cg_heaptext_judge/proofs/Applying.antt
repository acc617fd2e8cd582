-- The alternative of a name, and what is met in its payload.
use Rattle.std.proofs.Common.{◌≡◌, ℕ, ◌+◌, ◌<◌, ◌≤◌, true, false, List, [], ◌∷◌, length, drop, get_or, if◌then◌else◌, sym, ap, ◌∙◌}
use Rattle.std.proofs.lemmas.List.{at_drop_all, at_drop_more}
use Rattle.std.specs.Str.{bytes_eq}
use Rattle.cg_base.proofs.Views.{piece_of}
use Rattle.cg_base.specs.declared.place.Place.{Place}
use Rattle.cg_base.specs.declared.ty.Part.{Part}
use Rattle.cg_base.specs.Types.{Piece, to_parts}
use Rattle.cg_heaptext_def.specs.HeapText.{cells_of}
use Rattle.cg_heaptext_def.specs.Reading.{misfit, events, events_applied}
use Rattle.cg_heaptext_def.specs.Trees.{Heap, Written, bare, first}
use Rattle.cg_heaptext_judge.specs.Values.{payload_met}
use Rattle.cg_heaptext_judge_notes.specs.declared.notes.Judged.{Judged}
use Rattle.cg_heaptext_judge_steps.specs.Steps.{pieces}

module _ (at : Place) (x : List ℕ) (h : Heap) (v : Written) where
  applied_split : (p : Part) (ps : List Part) → events_applied (cells_of h) (pieces (p ∷ ps)) at x v ≡ (if bytes_eq x p.name then payload_met h p at v else events_applied (cells_of h) (pieces ps) at x v)
  unfolding events to_parts
  applied_split p ps =
      ap (λ (q : Piece). if bytes_eq x q.name then (if q.taken then misfit at ∷ [] else events (cells_of h) q.ty (first v) (bare v)) else events_applied (cells_of h) (pieces ps) at x v) (piece_of p)

  applied_next : (ps : List Part) (i : ℕ) (p : Part) → i < length ps → p ≡ get_or ps i p
      → events_applied (cells_of h) (pieces (drop i ps)) at x v ≡ (if bytes_eq x p.name then payload_met h p at v else events_applied (cells_of h) (pieces (drop (i + 1) ps)) at x v)
  applied_next ps i p within is =
      at_drop_more (λ l. events_applied (cells_of h) (pieces l) at x v) ps i p within
      ∙ applied_split (get_or ps i p) (drop (i + 1) ps)
      ∙ ap (λ (q : Part). if bytes_eq x q.name then payload_met h q at v else events_applied (cells_of h) (pieces (drop (i + 1) ps)) at x v) (sym is)

-- those that are left have what all have
abbrev pub Left : List Part → ℕ → Place → List ℕ → Type 0
Left ps i at x = (h : Heap) (v : Written) → events_applied (cells_of h) (pieces (drop i ps)) at x v ≡ events_applied (cells_of h) (pieces ps) at x v

module _ (at : Place) (x : List ℕ) (ps : List Part) (i : ℕ) (left : Left ps i at x) where
  pub applied_found : (p : Part) → i < length ps → p ≡ get_or ps i p → bytes_eq x p.name ≡ true → (h : Heap) (v : Written) → events_applied (cells_of h) (pieces ps) at x v ≡ payload_met h p at v
  applied_found p within is e h v =
      sym (left h v) ∙ applied_next at x h v ps i p within is ∙ ap (λ b. if b then payload_met h p at v else events_applied (cells_of h) (pieces (drop (i + 1) ps)) at x v) e

  pub applied_passed : (p : Part) → i < length ps → p ≡ get_or ps i p → bytes_eq x p.name ≡ false → Left ps (i + 1) at x
  applied_passed p within is e h v =
      sym (applied_next at x h v ps i p within is ∙ ap (λ b. if b then payload_met h p at v else events_applied (cells_of h) (pieces (drop (i + 1) ps)) at x v) e) ∙ left h v

  pub applied_over : length ps ≤ i → (h : Heap) (v : Written) → events_applied (cells_of h) (pieces ps) at x v ≡ misfit at ∷ []
  unfolding events to_parts
  applied_over over h v = sym (left h v) ∙ at_drop_all (λ l. events_applied (cells_of h) (pieces l) at x v) ps i over

-- in the loop nothing is noted
pub record Going (ps : List Part) (old : Judged) (i : ℕ) (at : Place) (x : List ℕ) (now : Judged) : Type 0 where
  pub left : Left ps i at x
  pub same : now ≡ old
