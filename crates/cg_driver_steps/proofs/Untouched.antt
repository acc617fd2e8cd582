-- Where a read failed, and no step reads behind one that writes, nothing was written.
use Rattle.std.proofs.Common.{◌≡◌, ℕ, List, [], ◌∷◌, Option, inl, inr, sym, ◌∙◌, subst}
use Rattle.cg_driver_steps.specs.declared.status.Status.{Status}
use Rattle.cg_driver_steps.specs.declared.status.Status.TheVariants.{ReadFault}
use Rattle.cg_driver_steps.specs.World.{World, Unwritten}
use Rattle.cg_driver_steps.specs.Steps.{Outcome, refuses, goes, Step, reads, judges, writes, Runs, ReadsFirst, ReadsNone}
use Rattle.cg_driver_steps.specs.Scripts.{Script, Says, Answers, printed, unprinted, no_memory, IsRuling}

module _ {J S : Type 0} (Judges : J → S → Outcome S → Type 0) (ruling : (j : J) (s : S) (status : Status) (text : List ℕ) → Judges j s (refuses status text) → IsRuling status) where
  -- without a read there is no fault of one
  none_unread : (steps : List (Step J S)) → ReadsNone steps → (s : S) (old new : World) (status : Status) (text : List ℕ) → Runs Judges steps s old (refuses status text) new → status ≡ ReadFault → ⊥
  none_unread [] none s old new status text r e = let q = r.0 in absurd (cc)
  none_unread (reads name limit keep ∷ steps) none s old new status text r e = absurd none
  none_unread (judges j ∷ steps) none s old new status text (inl r) e = subst IsRuling e (ruling j s status text r.1.0)
  none_unread (judges j ∷ steps) none s old new status text (inr r) e = none_unread steps none r.0 r.1 new status text r.3 e
  none_unread (writes name line ∷ steps) none s old new status text (inl r) e = let q = r.1.0 in absurd (cc)
  none_unread (writes name line ∷ steps) none s old new status text (inr r) e = none_unread steps none r.0 r.1 new status text r.3 e

  run_untouched : (steps : List (Step J S)) → ReadsFirst steps → (s : S) (old new : World) (status : Status) (text : List ℕ) → Runs Judges steps s old (refuses status text) new → status ≡ ReadFault → Unwritten old new
  run_untouched [] first s old new status text r e = let q = r.0 in absurd (cc)
  run_untouched (reads name limit keep ∷ steps) first s old new status text (inl r) e = record { held = r.1.2.held; writes = r.1.2.writes }
  run_untouched (reads name limit keep ∷ steps) first s old new status text (inr r) e =
      subst (λ w. Unwritten w new) r.2.3 (run_untouched steps first r.0 r.1 new status text r.3 e)
  run_untouched (judges j ∷ steps) first s old new status text (inl r) e = absurd (subst IsRuling e (ruling j s status text r.1.0))
  run_untouched (judges j ∷ steps) first s old new status text (inr r) e =
      subst (λ w. Unwritten w new) r.2.1 (run_untouched steps first r.0 r.1 new status text r.3 e)
  run_untouched (writes name line ∷ steps) first s old new status text (inl r) e = let q = r.1.0 in absurd (cc)
  run_untouched (writes name line ∷ steps) first s old new status text (inr r) e = absurd (none_unread steps first r.0 r.1 new status text r.3 e)

  said_untouched : (c : Script J S) → ReadsFirst c.steps → (old new : World) (s : Status) (text : List ℕ) → Says Judges c old new s text → s ≡ ReadFault → Unwritten old new
  said_untouched c first old new s text (refuses status t, r, is) e = run_untouched c.steps first c.start old new status t r (sym is.0 ∙ e)
  said_untouched c first old new s text (goes state, r, is) e = let q = is.0 in absurd (cc)

  -- at status 3 no file has changed
  pub untouched : (c : Script J S) → ReadsFirst c.steps → (old new : World) (taken taken' : Option (List ℕ)) (before now : ℕ) (s : Status) → Answers Judges c old new taken taken' before now s
      → s ≡ ReadFault → Unwritten old new
  untouched c first old new taken taken' before now s (printed text x t f) e = said_untouched c first old new s text x e
  untouched c first old new taken taken' before now s (unprinted status text x n t f w) e = absurd (cc)
  untouched c first old new taken taken' before now s (no_memory h t f w) e = absurd (cc)
