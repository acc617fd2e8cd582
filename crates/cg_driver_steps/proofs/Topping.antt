-- From the exact answer of a command to what follows of it.
use Rattle.std.proofs.Common.{◌≡◌, ◌<◌, ◌≤◌, inl, inr, ◌⊎◌, arith, ℕ, List, [], ◌∷◌, Option, Some, sym, ap, ◌∙◌, subst}
use Rattle.std.specs.Io.KnownBytes.{append_known}
use Rattle.cg_outside.specs.Causes.{next_count, Rose}
use Rattle.cg_outside.specs.Held.{Held}
use Rattle.cg_driver_steps.specs.declared.status.Status.{Status}
use Rattle.cg_driver_steps.specs.declared.status.Status.TheVariants.{Done, Refused, Usage, ReadFault, WriteFault, Memory, StepLimit, HeapRefused, CertRefused, TooLarge}
use Rattle.cg_driver_steps.specs.World.{World, calm, Unwritten}
use Rattle.cg_driver_steps.specs.Steps.{Outcome, refuses, goes, Step, reads, judges, writes, unread_line, unwritten_line, Runs, Reads, Writes, WritesNone, IsCalm, Each}
use Rattle.cg_driver_steps.specs.Scripts.{Script, IsSaid, HasStatus, Says, Leaves, Answers, printed, unprinted, no_memory, Comes, ComesTo, IsVerdict, IsRuling, Decides}
use Rattle.cg_driver_steps.specs.Parts.{HasPrinted}
use Rattle.cg_driver_steps.proofs.Joining.{stops_after, unwritten}
use Rattle.cg_driver_steps.proofs.Deciding.{IsSettled, calmly, one_outcome, IsUnread, IsUnwritten, Refuses, by_read, by_write, by_judgement, refused_by, not_unread, not_unwritten}

refl_le : (n : ℕ) → n ≤ n
refl_le n = omega arith

-- a status that a judgement refuses with is none of these
not_ruling : (s : Status) → IsRuling s → (s ≡ Done → ⊥) × (s ≡ ReadFault → ⊥) × (s ≡ WriteFault → ⊥) × (s ≡ Memory → ⊥)
not_ruling s r = (λ e. subst IsRuling e r, λ e. subst IsRuling e r, λ e. subst IsRuling e r, λ e. subst IsRuling e r)

ruling_verdict : (s : Status) → IsRuling s → IsVerdict s
ruling_verdict Done r = tt
ruling_verdict Refused r = tt
ruling_verdict Usage r = tt
ruling_verdict ReadFault r = absurd r
ruling_verdict WriteFault r = absurd r
ruling_verdict Memory r = absurd r
ruling_verdict StepLimit r = tt
ruling_verdict HeapRefused r = tt
ruling_verdict CertRefused r = tt
ruling_verdict TooLarge r = tt

module _ {J S : Type 0} (Judges : J → S → Outcome S → Type 0) where
  pub says_leaves : (c : Script J S) (old new : World) (s : Status) (text : List ℕ) → Says Judges c old new s text → Leaves Judges c old new
  says_leaves c old new s text a = stops_after Judges c.steps c.start old new a.0 a.1

  -- what is said is printed
  pub prints : (c : Script J S) (old new : World) (s : Status) (text : List ℕ) (taken taken' : Option (List ℕ)) (before now : ℕ) (result : Status)
      → Says Judges c old new s text → HasPrinted s text taken taken' before now result → Answers Judges c old new taken taken' before now result
  prints c old new s text taken taken' before now result a (inl e) = printed text (subst (λ x. Says Judges c old new x text) (sym e.0) a) e.1 e.2
  prints c old new s text taken taken' before now result a (inr (inl e)) = unprinted s text a e.1 e.2 e.3 e.0
  prints c old new s text taken taken' before now result a (inr (inr e)) = no_memory (says_leaves c old new s text a) e.1 e.2 e.0

  said_settled : (line : S → List ℕ → Type 0) (o : Outcome S) (s : Status) (text : List ℕ) → IsSaid line o s text → IsVerdict s → IsSettled o
  said_settled line (refuses status t) s text is v = subst IsVerdict is.0 v
  said_settled line (goes state) s text is v = tt

  said_once : (line : S → List ℕ → Type 0) → ((x : S) (t t' : List ℕ) → line x t → line x t' → t ≡ t') → (o : Outcome S) (s s' : Status) (t t' : List ℕ) → IsSaid line o s t → IsSaid line o s' t' → (s ≡ s') × (t ≡ t')
  said_once line once (refuses status text) s s' t t' is is' = (is.0 ∙ sym is'.0, is.1 ∙ sym is'.1)
  said_once line once (goes state) s s' t t' is is' = (is.0 ∙ sym is'.0, once state t t' is.1 is'.1)

  said_status : (line : S → List ℕ → Type 0) (o : Outcome S) (s : Status) (t : List ℕ) → IsSaid line o s t → HasStatus o s
  said_status line (refuses status text) s t is = is.0
  said_status line (goes state) s t is = is.0

  status_once : (o : Outcome S) (s s' : Status) → HasStatus o s → HasStatus o s' → s ≡ s'
  status_once (refuses status text) s s' a b = a ∙ sym b
  status_once (goes state) s s' a b = a ∙ sym b

  -- what stands after a command
  pub leaves : (c : Script J S) (old new : World) (taken taken' : Option (List ℕ)) (before now : ℕ) (s : Status) → Answers Judges c old new taken taken' before now s → Leaves Judges c old new
  leaves c old new taken taken' before now s (printed text a e f) = says_leaves c old new s text a
  leaves c old new taken taken' before now s (unprinted status text a n e f w) = says_leaves c old new status text a
  leaves c old new taken taken' before now s (no_memory h e f w) = h

  pub leaves_unwritten : (c : Script J S) (old new : World) (taken taken' : Option (List ℕ)) (before now : ℕ) (s : Status) → Answers Judges c old new taken taken' before now s
      → WritesNone c.steps → Unwritten old new
  leaves_unwritten c old new taken taken' before now s a none = unwritten Judges c.steps c.start old new none (leaves c old new taken taken' before now s a)

  -- a command that was decided was printed
  record Verdict (c : Script J S) (old new : World) (taken taken' : Option (List ℕ)) (s : Status) : Type 0 where
    text : List ℕ
    says : Says Judges c old new s text
    took : taken' ≡ append_known taken text

  verdict : (c : Script J S) (old new : World) (taken taken' : Option (List ℕ)) (before now : ℕ) (s : Status) → Answers Judges c old new taken taken' before now s → IsVerdict s → Verdict c old new taken taken' s
  verdict c old new taken taken' before now s (printed text a e f) v = record { text = text; says = a; took = e }
  verdict c old new taken taken' before now s (unprinted status text a n e f w) v = absurd (subst IsVerdict w v)
  verdict c old new taken taken' before now s (no_memory h e f w) v = absurd (subst IsVerdict w v)

  comes_so : (c : Script J S) (old new : World) (held : Held) (s : Status) (text : List ℕ) → old.held ≡ Some held → IsVerdict s → Says Judges c old new s text → Comes Judges c held s text
  comes_so c old new held s text told v a =
      let r = calmly Judges c.steps c.start old new a.0 held told (said_settled c.line a.0 s text a.2 v) a.1 in
      (r.0, (a.0, r.1, a.2))

  module _ (single : (j : J) (s : S) (o o' : Outcome S) → Judges j s o → Judges j s o' → o ≡ o') where
    -- a command comes to one status, and says one text where its line of each state is one
    pub comes_one : (c : Script J S) → ((x : S) (t t' : List ℕ) → c.line x t → c.line x t' → t ≡ t') → (held : Held) (s s' : Status) (t t' : List ℕ) → Comes Judges c held s t → Comes Judges c held s' t'
        → (s ≡ s') × (t ≡ t')
    comes_one c once held s s' t t' a b =
        let m = one_outcome Judges single c.steps c.start held a.0 b.0 a.1.0 b.1.0 a.1.1 b.1.1 in
        said_once c.line once b.1.0 s s' t t' (subst (λ o. IsSaid c.line o s t) m.outcome a.1.2) b.1.2

    pub comes_to_one : (c : Script J S) (held : Held) (s s' : Status) → ComesTo Judges c held s → ComesTo Judges c held s' → s ≡ s'
    comes_to_one c held s s' a b =
        let m = one_outcome Judges single c.steps c.start held a.1 b.1 a.0 b.0 a.2 b.2 in
        status_once b.0 s s' (subst (λ o. HasStatus o s) m.outcome a.3) b.3

    module _ (c : Script J S) (old new : World) (taken taken' : Option (List ℕ)) (before now : ℕ) (s : Status) (a : Answers Judges c old new taken taken' before now s)
        (held : Held) (told : old.held ≡ Some held) where
      -- what the files say is answered, and printed
      pub answers_just : ((x : S) (t t' : List ℕ) → c.line x t → c.line x t' → t ≡ t') → IsVerdict s → (status : Status) (text : List ℕ) → Comes Judges c held status text
          → (s ≡ status) × (taken' ≡ append_known taken text)
      answers_just once v status text k =
          let x = verdict c old new taken taken' before now s a v in
          let same = comes_one c once held s status x.text text (comes_so c old new held s x.text told v x.says) k in
          (same.0, x.took ∙ ap (append_known taken) same.1)

      comes_to : IsVerdict s → ComesTo Judges c held s
      comes_to v =
          let x = verdict c old new taken taken' before now s a v in
          let k = comes_so c old new held s x.text told v x.says in
          (k.1.0, k.0, k.1.1, said_status c.line k.1.0 s x.text k.1.2)

      pub decided : IsVerdict s → Decides (ComesTo Judges c held) s
      decided v = λ status. (λ e. subst (λ y. ComesTo Judges c held y) e (comes_to v), λ k. comes_to_one c held s status (comes_to v) k)

  -- ---- faults, and what they are licensed by

  each_one : (steps : List (Step J S)) → Each (λ j. Unit {0}) steps
  each_one [] = tt
  each_one (reads name limit keep ∷ steps) = each_one steps
  each_one (judges j ∷ steps) = (tt, each_one steps)
  each_one (writes name text ∷ steps) = each_one steps

  module _ (rules : (j : J) (s : S) (status : Status) (text : List ℕ) → Judges j s (refuses status text) → IsRuling status) where
    refused : (steps : List (Step J S)) (s : S) (old new : World) (status : Status) (text : List ℕ) → Runs Judges steps s old (refuses status text) new → Refuses Judges IsRuling steps old new status text
    refused steps s old new status text r =
        refused_by Judges (λ j. Unit {0}) IsRuling (λ j s status text p d. rules j s status text d) steps s old new status text (each_one steps) r

    -- what is said with a status
    says_read : (c : Script J S) (old new : World) (s : Status) (text : List ℕ) → Says Judges c old new s text → s ≡ ReadFault → IsUnread Judges c.steps old new text
    says_read c old new s text (goes state, r, is) e = let d = is.0 in absurd (cc)
    says_read c old new s text (refuses status t, r, is) e = go (refused c.steps c.start old new status t r)
      where
        go : Refuses Judges IsRuling c.steps old new status t → IsUnread Judges c.steps old new text
        go (by_read x u) = subst (IsUnread Judges c.steps old new) (sym is.1) u
        go (by_write x u) = let d = is.0 in absurd (cc)
        go (by_judgement q) = absurd ((not_ruling status q).1 (sym is.0 ∙ e))

    says_write : (c : Script J S) (old new : World) (s : Status) (text : List ℕ) → Says Judges c old new s text → s ≡ WriteFault → IsUnwritten Judges c.steps old new text
    says_write c old new s text (goes state, r, is) e = let d = is.0 in absurd (cc)
    says_write c old new s text (refuses status t, r, is) e = go (refused c.steps c.start old new status t r)
      where
        go : Refuses Judges IsRuling c.steps old new status t → IsUnwritten Judges c.steps old new text
        go (by_write x u) = subst (IsUnwritten Judges c.steps old new) (sym is.1) u
        go (by_read x u) = let d = is.0 in absurd (cc)
        go (by_judgement q) = absurd ((not_ruling status q).2 (sym is.0 ∙ e))

    says_memory : (c : Script J S) (old new : World) (s : Status) (text : List ℕ) → Says Judges c old new s text → s ≡ Memory → ⊥
    says_memory c old new s text (goes state, r, is) e = let d = is.0 in absurd (cc)
    says_memory c old new s text (refuses status t, r, is) e = go (refused c.steps c.start old new status t r)
      where
        go : Refuses Judges IsRuling c.steps old new status t → ⊥
        go (by_write x u) = let d = is.0 in absurd (cc)
        go (by_read x u) = let d = is.0 in absurd (cc)
        go (by_judgement q) = (not_ruling status q).3 (sym is.0 ∙ e)

    says_done : (c : Script J S) (old new : World) (s : Status) (text : List ℕ) → Says Judges c old new s text → s ≡ Done → (found : S) × Runs Judges c.steps c.start old (goes found) new × c.line found text
    says_done c old new s text (goes state, r, is) e = (state, r, is.1)
    says_done c old new s text (refuses status t, r, is) e = go (refused c.steps c.start old new status t r)
      where
        go : Refuses Judges IsRuling c.steps old new status t → (found : S) × Runs Judges c.steps c.start old (goes found) new × c.line found text
        go (by_write x u) = let d = is.0 in absurd (cc)
        go (by_read x u) = let d = is.0 in absurd (cc)
        go (by_judgement q) = absurd ((not_ruling status q).0 (sym is.0 ∙ e))

    -- a command that comes to status 0 goes through all of its steps
    pub came_done : (c : Script J S) (held : Held) → ComesTo Judges c held Done → (found : S) × (after : Held) × Runs Judges c.steps c.start (calm held) (goes found) (calm after)
    came_done c held (goes state, after, r, h) = (state, after, r)
    came_done c held (refuses status t, after, r, h) = go (refused c.steps c.start (calm held) (calm after) status t r)
      where
        go : Refuses Judges IsRuling c.steps (calm held) (calm after) status t → (found : S) × (after : Held) × Runs Judges c.steps c.start (calm held) (goes found) (calm after)
        go (by_write x u) = absurd (cc)
        go (by_read x u) = absurd (cc)
        go (by_judgement q) = absurd ((not_ruling status q).0 (sym h))

    -- where no count rose, what is said was decided
    says_verdict : (c : Script J S) (old new : World) (s : Status) (text : List ℕ) → Says Judges c old new s text → IsCalm c.steps old new → IsVerdict s
    says_verdict c old new s text (goes state, r, is) calm = subst IsVerdict (sym is.0) tt
    says_verdict c old new s text (refuses status t, r, is) calm = go (refused c.steps c.start old new status t r)
      where
        go : Refuses Judges IsRuling c.steps old new status t → IsVerdict s
        go (by_write x u) = absurd (not_unwritten Judges c.steps old new t calm u)
        go (by_read x u) = absurd (not_unread Judges c.steps old new t calm u)
        go (by_judgement q) = subst IsVerdict (sym is.0) (ruling_verdict status q)

    module _ (c : Script J S) (old new : World) (taken taken' : Option (List ℕ)) (before now : ℕ) (s : Status) (a : Answers Judges c old new taken taken' before now s) where
      -- status 3: a read of the command failed, and its file is printed
      pub unread : s ≡ ReadFault → (name : List ℕ) × Reads c.steps name × (old.reads name < new.reads name) × (taken' ≡ append_known taken (unread_line name))
      unread e = go a
        where
          go : Answers Judges c old new taken taken' before now s → (name : List ℕ) × Reads c.steps name × (old.reads name < new.reads name) × (taken' ≡ append_known taken (unread_line name))
          go (printed text x t f) = let u = says_read c old new s text x e in (u.name, u.read, u.rose, t ∙ ap (append_known taken) u.line)
          go (unprinted status text x n t f w) = absurd (cc)
          go (no_memory h t f w) = absurd (cc)

      -- status 4: a write of the command failed, and its file is printed; or the one write to the output failed
      pub unwrote : s ≡ WriteFault → ((name : List ℕ) × Writes c.steps name × (old.writes name < new.writes name) × (taken' ≡ append_known taken (unwritten_line name))) ⊎ Rose before now
      unwrote e = go a
        where
          go : Answers Judges c old new taken taken' before now s → ((name : List ℕ) × Writes c.steps name × (old.writes name < new.writes name) × (taken' ≡ append_known taken (unwritten_line name))) ⊎ Rose before now
          go (printed text x t f) = let u = says_write c old new s text x e in inl (u.name, u.written, u.rose, t ∙ ap (append_known taken) u.line)
          go (unprinted status text x n t f w) = inr (subst (λ y. next_count before ≤ y) (sym f) (refl_le (next_count before)))
          go (no_memory h t f w) = absurd (cc)

      -- status 5: nothing is printed, and the output has no fault
      pub silent : s ≡ Memory → (taken' ≡ taken) × (now ≡ before)
      silent e = go a
        where
          go : Answers Judges c old new taken taken' before now s → (taken' ≡ taken) × (now ≡ before)
          go (printed text x t f) = absurd (says_memory c old new s text x e)
          go (unprinted status text x n t f w) = absurd (cc)
          go (no_memory h t f w) = (t, f)

      -- status 0: all steps were gone through
      pub finished : s ≡ Done → (found : S) × (text : List ℕ) × Runs Judges c.steps c.start old (goes found) new × c.line found text × (taken' ≡ append_known taken text)
      finished e = go a
        where
          go : Answers Judges c old new taken taken' before now s → (found : S) × (text : List ℕ) × Runs Judges c.steps c.start old (goes found) new × c.line found text × (taken' ≡ append_known taken text)
          go (printed text x t f) = let d = says_done c old new s text x e in (d.0, text, d.1, d.2, t)
          go (unprinted status text x n t f w) = absurd (cc)
          go (no_memory h t f w) = absurd (cc)

      -- where no call failed, what the files say is answered, unless memory ran out
      pub completes : ((j : J) (s : S) (o o' : Outcome S) → Judges j s o → Judges j s o' → o ≡ o') → (held : Held) → old.held ≡ Some held → IsCalm c.steps old new → (Rose before now → ⊥)
          → (status : Status) → ComesTo Judges c held status → (s ≡ status) ⊎ (s ≡ Memory)
      completes single held told calm quiet status k = go a
        where
          go : Answers Judges c old new taken taken' before now s → (s ≡ status) ⊎ (s ≡ Memory)
          go (printed text x t f) = inl ((decided single c old new taken taken' before now s a held told (says_verdict c old new s text x calm) status).1 k)
          go (unprinted status text x n t f w) = absurd (quiet (subst (λ y. next_count before ≤ y) (sym f) (refl_le (next_count before))))
          go (no_memory h t f w) = inr w
