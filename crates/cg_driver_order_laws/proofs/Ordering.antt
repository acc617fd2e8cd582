-- A command that reads a file, judges what it holds and writes two files leaves files in order, whatever it answers.
use Rattle.std.proofs.Common.{◌≡◌, ◌⊎◌, inl, inr, ℕ, List, [], ◌∷◌, Option, refl, sym, ap, ◌∙◌, subst}
use Rattle.cg_outside.specs.Held.{IsReadOf, HoldsPrefix, with_file}
use Rattle.cg_driver_steps.specs.declared.status.Status.{Status}
use Rattle.cg_driver_steps.specs.declared.status.Status.TheVariants.{Done, Refused, Usage, ReadFault, WriteFault, Memory}
use Rattle.cg_driver_steps.specs.declared.status.Status.TheVariants.{StepLimit, HeapRefused, CertRefused, TooLarge}
use Rattle.cg_driver_steps.specs.World.{World}
use Rattle.cg_driver_steps.specs.Steps.{Outcome, refuses, goes, IsRefusal, Step, reads, writes, Does, Runs, Stops, Settles, judged_first}
use Rattle.cg_driver_steps.specs.Scripts.{Script, IsSaid, Answers, printed, unprinted, no_memory, IsRuling}
use Rattle.cg_driver_order_def.specs.Order.{Pair, pair_steps, AreRulings, Found, with_first, with_both, IsTorn, StandsAs, IsInOrder}

module _ {J S : Type 0} (Judges : J → S → Outcome S → Type 0) where
  -- ---- judgements before other steps

  -- judgements as steps leave the world: one of them refused, or they went on to the steps behind them
  abbrev Parts : List J → List (Step J S) → S → World → World → Outcome S → Type 0
  Parts js rest s old new o =
      (IsRefusal o × Settles Judges js s o × (new ≡ old)) ⊎ ((next : S) × Settles Judges js s (goes next) × Runs Judges rest next old o new)

  parts : (js : List J) (rest : List (Step J S)) (s : S) (old new : World) (o : Outcome S) → Runs Judges (judged_first js rest) s old o new
      → Parts js rest s old new o
  parts [] rest s old new o r = inr (s, refl, r)
  parts (j ∷ js) rest s old new o (inl r) = inl (r.0, inl (r.0, r.1.0), r.1.1)
  parts (j ∷ js) rest s old new o (inr r) = go (parts js rest r.0 r.1 new o r.3)
    where
      go : Parts js rest r.0 r.1 new o → Parts (j ∷ js) rest s old new o
      go (inl q) = inl (q.0, inr (r.0, r.2.0, q.1), q.2 ∙ r.2.1)
      go (inr q) = inr (q.0, inr (r.0, r.2.0, q.1), subst (λ w. Runs Judges rest q.0 w o new) r.2.1 q.2)

  -- the same where memory ran out
  abbrev StoppedParts : List J → List (Step J S) → S → World → World → Type 0
  StoppedParts js rest s old new = (new ≡ old) ⊎ ((next : S) × Settles Judges js s (goes next) × Stops Judges rest next old new)

  stopped_parts : (js : List J) (rest : List (Step J S)) (s : S) (old new : World) → Stops Judges (judged_first js rest) s old new
      → StoppedParts js rest s old new
  stopped_parts [] rest s old new r = inr (s, refl, r)
  stopped_parts (j ∷ js) rest s old new (inl r) = inl r
  stopped_parts (j ∷ js) rest s old new (inr (inl r)) = inl r.2.1
  stopped_parts (j ∷ js) rest s old new (inr (inr r)) = go (stopped_parts js rest r.0 r.1 new r.3)
    where
      go : StoppedParts js rest r.0 r.1 new → StoppedParts (j ∷ js) rest s old new
      go (inl q) = inl (q ∙ r.2.1)
      go (inr q) = inr (q.0, inr (r.0, r.2.0, q.1), subst (λ w. Stops Judges rest q.0 w new) r.2.1 q.2)

  module _ (rulings : AreRulings Judges) (p : Pair J S) where
    settled_ruling : (js : List J) (s : S) (status : Status) (text : List ℕ) → Settles Judges js s (refuses status text) → IsRuling status
    settled_ruling [] s status text r = absurd (cc)
    settled_ruling (j ∷ js) s status text (inl r) = rulings j s status text r.1
    settled_ruling (j ∷ js) s status text (inr r) = settled_ruling js r.0 status text r.2

    -- ---- how files stand by the status

    abbrev Stands : S → World → World → Status → Type 0
    Stands start old new status = StandsAs Judges p start old.held new.held status

    ruled : (start : S) (old new : World) (status : Status) → IsRuling status → new.held ≡ old.held → Stands start old new status
    ruled start old new Done is same = absurd is
    ruled start old new Refused is same = same
    ruled start old new Usage is same = same
    ruled start old new ReadFault is same = absurd is
    ruled start old new WriteFault is same = absurd is
    ruled start old new Memory is same = absurd is
    ruled start old new StepLimit is same = same
    ruled start old new HeapRefused is same = same
    ruled start old new CertRefused is same = same
    ruled start old new TooLarge is same = same

    -- what was said was printed
    ordered : (start : S) (old new : World) (before now : ℕ) (status : Status) → Stands start old new status → now ≡ before
        → IsInOrder Judges p start old.held new.held before now status
    ordered start old new before now Done stands quiet = stands
    ordered start old new before now Refused stands quiet = stands
    ordered start old new before now Usage stands quiet = stands
    ordered start old new before now ReadFault stands quiet = stands
    ordered start old new before now WriteFault stands quiet = inl (stands, quiet)
    ordered start old new before now Memory stands quiet = inl stands
    ordered start old new before now StepLimit stands quiet = stands
    ordered start old new before now HeapRefused stands quiet = stands
    ordered start old new before now CertRefused stands quiet = stands
    ordered start old new before now TooLarge stands quiet = stands

    -- ---- the two writes

    abbrev first_write : Step J S
    first_write = writes p.first p.first_text

    abbrev second_write : Step J S
    second_write = writes p.second p.second_text

    abbrev both_writes : List (Step J S)
    both_writes = first_write ∷ second_write ∷ []

    -- the first file was written, or both were, or one write failed
    abbrev Left : S → World → World → Type 0
    Left found old new =
        (new.held ≡ with_first p found old.held) ⊎ ((new.held ≡ with_both p found old.held) ⊎ IsTorn p found old.held new.held)

    module _ (found : S) (old between new : World) (wrote : between.held ≡ with_first p found old.held) where
      -- the second failed behind the first
      torn_behind : HoldsPrefix p.second (p.second_text found) between.held new.held → IsTorn p found old.held new.held
      torn_behind prefix = inr (subst (λ h. HoldsPrefix p.second (p.second_text found) h new.held) wrote prefix)

      -- and here it was done
      both_behind : new.held ≡ with_file between.held p.second (p.second_text found) → new.held ≡ with_both p found old.held
      both_behind done = done ∙ ap (λ h. with_file h p.second (p.second_text found)) wrote

    module _ (start found : S) (old new : World) (is : Found Judges p start old.held found)
        (line : S → List ℕ → Type 0) (status : Status) (text : List ℕ) where
      second_written : (between : World) → between.held ≡ with_first p found old.held → (o : Outcome S)
          → Runs Judges (second_write ∷ []) found between o new → IsSaid line o status text → Stands start old new status
      second_written between wrote (refuses s t) (inl r) said =
          subst (Stands start old new) (sym (said.0 ∙ r.1.0)) (found, is, torn_behind found old between new wrote r.1.2.held)
      second_written between wrote (refuses s t) (inr r) said = let e = r.3.0 in absurd (cc)
      second_written between wrote (goes next) (inl r) said = absurd r.0
      second_written between wrote (goes next) (inr r) said =
          let done = ap (λ w. w.held) r.3.1 ∙ r.2.1.held in
          subst (Stands start old new) (sym said.0) (found, is, both_behind found old between new wrote done)

      written : (o : Outcome S) → Runs Judges both_writes found old o new → IsSaid line o status text → Stands start old new status
      written (refuses s t) (inl r) said = subst (Stands start old new) (sym (said.0 ∙ r.1.0)) (found, is, inl r.1.2.held)
      written (goes next) (inl r) said = absurd r.0
      written o (inr r) said =
          second_written r.1 r.2.1.held o (subst (λ x. Runs Judges (second_write ∷ []) x r.1 o new) r.2.0 r.3) said

    -- memory ran out among them
    module _ (found : S) (old new : World) where
      first_failed : (o : Outcome S) → IsRefusal o → Does Judges first_write found old o new → Left found old new
      first_failed (refuses s t) refused d = inr (inr (inl d.2.held))
      first_failed (goes next) refused d = absurd refused

      module _ (between : World) (wrote : between.held ≡ with_first p found old.held) where
        second_failed : (o : Outcome S) → IsRefusal o → Does Judges second_write found between o new → Left found old new
        second_failed (refuses s t) refused d = inr (inr (torn_behind found old between new wrote d.2.held))
        second_failed (goes next) refused d = absurd refused

        second_stopped : Stops Judges (second_write ∷ []) found between new → Left found old new
        second_stopped (inl r) = inl (ap (λ w. w.held) r ∙ wrote)
        second_stopped (inr (inl r)) = second_failed r.0 r.1 r.2
        second_stopped (inr (inr r)) = inr (inl (both_behind found old between new wrote (ap (λ w. w.held) r.3 ∙ r.2.1.held)))

      stopped : Stops Judges both_writes found old new → (new.held ≡ old.held) ⊎ Left found old new
      stopped (inl r) = inl (ap (λ w. w.held) r)
      stopped (inr (inl r)) = inr (first_failed r.0 r.1 r.2)
      stopped (inr (inr r)) = inr (second_stopped r.1 r.2.1.held (subst (λ x. Stops Judges (second_write ∷ []) x r.1 new) r.2.0 r.3))

    -- ---- all steps

    module _ (start : S) (old new : World) where
      abbrev kept : List ℕ → S
      kept bytes = p.keep bytes start

      found_of : (bytes : List ℕ) (found : S) → IsReadOf old.held p.file p.limit bytes → Settles Judges p.rules (kept bytes) (goes found)
          → Found Judges p start old.held found
      found_of bytes found read ruled = record { bytes = bytes; read = read; ruled = ruled }

      unread : (o : Outcome S) → IsRefusal o → Does Judges (reads p.file p.limit p.keep) start old o new → new.held ≡ old.held
      unread (refuses s t) is d = d.2.held
      unread (goes next) is d = absurd is

      -- they came to an outcome
      module _ (line : S → List ℕ → Type 0) (status : Status) (text : List ℕ) where
        refused : (bytes : List ℕ) (o : Outcome S) → IsRefusal o → Settles Judges p.rules (kept bytes) o → new.held ≡ old.held
            → IsSaid line o status text → Stands start old new status
        refused bytes (refuses s t) is settled same said =
            ruled start old new status (subst IsRuling (sym said.0) (settled_ruling p.rules (kept bytes) s t settled)) same
        refused bytes (goes next) is settled same said = absurd is

        judged : (bytes : List ℕ) (o : Outcome S) → IsReadOf old.held p.file p.limit bytes → IsSaid line o status text
            → Runs Judges (judged_first p.rules both_writes) (kept bytes) old o new → Stands start old new status
        judged bytes o read said r = go (parts p.rules both_writes (kept bytes) old new o r)
          where
            go : Parts p.rules both_writes (kept bytes) old new o → Stands start old new status
            go (inl q) = refused bytes o q.0 q.1 (ap (λ w. w.held) q.2) said
            go (inr q) = written start q.0 old new (found_of bytes q.0 read q.1) line status text o q.2 said

        said_stands : (o : Outcome S) → Runs Judges (pair_steps p) start old o new → IsSaid line o status text → Stands start old new status
        said_stands (refuses s t) (inl r) said = subst (Stands start old new) (sym (said.0 ∙ r.1.0)) r.1.2.held
        said_stands (goes next) (inl r) said = absurd r.0
        said_stands o (inr r) said =
            judged r.2.0 o r.2.1 said (subst (λ w. Runs Judges (judged_first p.rules both_writes) (kept r.2.0) w o new) r.2.3
            (subst (λ x. Runs Judges (judged_first p.rules both_writes) x r.1 o new) r.2.2 r.3))

      -- memory ran out among them
      abbrev StandsStopped : Type 0
      StandsStopped = (new.held ≡ old.held) ⊎ ((found : S) × Found Judges p start old.held found × Left found old new)

      with_found : (found : S) → Found Judges p start old.held found → (new.held ≡ old.held) ⊎ Left found old new → StandsStopped
      with_found found is (inl q) = inl q
      with_found found is (inr q) = inr (found, is, q)

      judged_stopped : (bytes : List ℕ) → IsReadOf old.held p.file p.limit bytes
          → Stops Judges (judged_first p.rules both_writes) (kept bytes) old new → StandsStopped
      judged_stopped bytes read r = go (stopped_parts p.rules both_writes (kept bytes) old new r)
        where
          go : StoppedParts p.rules both_writes (kept bytes) old new → StandsStopped
          go (inl q) = inl (ap (λ w. w.held) q)
          go (inr q) = with_found q.0 (found_of bytes q.0 read q.1) (stopped q.0 old new q.2)

      said_stopped : Stops Judges (pair_steps p) start old new → StandsStopped
      said_stopped (inl r) = inl (ap (λ w. w.held) r)
      said_stopped (inr (inl r)) = inl (unread r.0 r.1 r.2)
      said_stopped (inr (inr r)) =
          judged_stopped r.2.0 r.2.1 (subst (λ w. Stops Judges (judged_first p.rules both_writes) (kept r.2.0) w new) r.2.3
          (subst (λ x. Stops Judges (judged_first p.rules both_writes) x r.1 new) r.2.2 r.3))

    -- whatever a command with these steps answers, files stand so
    module _ (c : Script J S) (same : c.steps ≡ pair_steps p) (old new : World) (taken taken' : Option (List ℕ)) (before now : ℕ) where
      abbrev Stand : Status → Type 0
      Stand = IsInOrder Judges p c.start old.held new.held before now

      said_so : (status : Status) (text : List ℕ) (o : Outcome S) → Runs Judges c.steps c.start old o new → IsSaid c.line o status text
          → Stands c.start old new status
      said_so status text o r said =
          said_stands c.start old new c.line status text o (subst (λ steps. Runs Judges steps c.start old o new) same r) said

      pub in_order : (result : Status) → Answers Judges c old new taken taken' before now result → Stand result
      in_order result (printed text said took quiet) = ordered c.start old new before now result (said_so result text said.0 said.1 said.2) quiet
      in_order result (unprinted status text said n took rose is) =
          subst Stand (sym is) (inr (status, said_so status text said.0 said.1 said.2, rose))
      in_order result (no_memory left took quiet is) =
          subst Stand (sym is) (said_stopped c.start old new (subst (λ steps. Stops Judges steps c.start old new) same left))
