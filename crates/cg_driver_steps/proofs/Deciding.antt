-- Over told contents a list of steps comes to one outcome.
use Rattle.std.proofs.Common.{◌≡◌, inl, inr, ◌≤◌, ◌<◌, ◌+◌, ℕ, List, [], ◌∷◌, Option, Some, take, refl, sym, ap, ◌∙◌, subst, arith}
use Rattle.std.specs.FinMap.{insert}
use Rattle.cg_outside.specs.Failures.{OneMore}
use Rattle.cg_outside.specs.Held.{Held, IsReadOf, bytes_at, with_file}
use Rattle.cg_driver_steps.specs.declared.status.Status.{Status}
use Rattle.cg_driver_steps.specs.declared.status.Status.TheVariants.{ReadFault, WriteFault}
use Rattle.cg_driver_steps.specs.World.{World, calm}
use Rattle.cg_driver_steps.specs.Steps.{Outcome, refuses, goes, IsRefusal, Step, reads, judges, writes, unread_line, unwritten_line, Does, Runs, Reads, Writes, IsCalm, Each}
use Rattle.cg_driver_steps.specs.Scripts.{IsVerdict}
use Rattle.cg_driver_steps.proofs.Joining.{same_world}

-- no fault of a read or a write decided, nor want of memory
abbrev pub IsSettled : {S : Type 0} → Outcome S → Type 0
IsSettled (refuses status text) = IsVerdict status
IsSettled (goes state) = Unit {0}

told_read : (h : Option Held) (held : Held) (name : List ℕ) (limit : ℕ) (bytes : List ℕ) → h ≡ Some held → IsReadOf h name limit bytes → IsReadOf (Some held) name limit bytes
told_read h held name limit bytes told r = subst (λ x. IsReadOf x name limit bytes) told r

-- a count that doesn't rise hasn't had one more
never_one_more : (name : List ℕ) → OneMore name (λ n. 0) (λ n. 0) → ⊥
never_one_more name h = let e = h.here in absurd (omega (arith, e))

module _ {J S : Type 0} (Judges : J → S → Outcome S → Type 0) where
  -- a run in which no call failed is one of the world in which none does
  pub calmly : (steps : List (Step J S)) (s : S) (old new : World) (o : Outcome S) (held : Held) → old.held ≡ Some held → IsSettled o → Runs Judges steps s old o new
      → (after : Held) × Runs Judges steps s (calm held) o (calm after)
  calmly [] s old new o held told settled r = (held, (r.0, refl))
  calmly (reads name limit keep ∷ steps) s old new (refuses status text) held told settled (inl r) = absurd (subst IsVerdict r.1.0 settled)
  calmly (reads name limit keep ∷ steps) s old new (goes next) held told settled (inl r) = absurd r.0
  calmly (judges j ∷ steps) s old new o held told settled (inl r) = (held, inl (r.0, (r.1.0, refl)))
  calmly (writes name text ∷ steps) s old new (refuses status line) held told settled (inl r) = absurd (subst IsVerdict r.1.0 settled)
  calmly (writes name text ∷ steps) s old new (goes next) held told settled (inl r) = absurd r.0
  calmly (reads name limit keep ∷ steps) s old new o held told settled (inr r) =
      let rest = calmly steps r.0 r.1 new o held (ap (λ w. w.held) r.2.3 ∙ told) settled r.3 in
      (rest.0, inr (r.0, calm held, (r.2.0, told_read old.held held name limit r.2.0 told r.2.1, r.2.2, refl), rest.1))
  calmly (judges j ∷ steps) s old new o held told settled (inr r) =
      let rest = calmly steps r.0 r.1 new o held (ap (λ w. w.held) r.2.1 ∙ told) settled r.3 in
      (rest.0, inr (r.0, calm held, (r.2.0, refl), rest.1))
  calmly (writes name text ∷ steps) s old new o held told settled (inr r) =
      let after = insert held name (text s) in
      let rest = calmly steps r.0 r.1 new o after (r.2.1.held ∙ ap (λ h. with_file h name (text s)) told) settled r.3 in
      (rest.0, inr (r.0, calm after, (r.2.0, record { held = refl; reads = refl; writes = refl }), rest.1))

  -- the same outcome, and the same files afterwards
  pub record Same (o o' : Outcome S) (new new' : World) : Type 0 where
    pub outcome : o ≡ o'
    pub world : new ≡ new'

  module _ (single : (j : J) (s : S) (o o' : Outcome S) → Judges j s o → Judges j s o' → o ≡ o') where
    -- where no call fails, a step does one thing
    one_step : (step : Step J S) (s : S) (held : Held) (new new' : World) (o o' : Outcome S) → new.reads ≡ (λ n. 0) → new.writes ≡ (λ n. 0) → new'.reads ≡ (λ n. 0) → new'.writes ≡ (λ n. 0)
        → Does Judges step s (calm held) o new → Does Judges step s (calm held) o' new' → Same o o' new new'
    one_step (reads name limit keep) s held new new' (refuses status text) o' r w r' w' d d' = absurd (never_one_more name (subst (OneMore name (λ n. 0)) r d.2.reads))
    one_step (reads name limit keep) s held new new' (goes next) (refuses status text) r w r' w' d d' = absurd (never_one_more name (subst (OneMore name (λ n. 0)) r' d'.2.reads))
    one_step (reads name limit keep) s held new new' (goes next) (goes next') r w r' w' d d' =
        let same : d.0 ≡ d'.0 = d.1 ∙ sym d'.1 in
        record { outcome = ap goes (d.2 ∙ (ap (λ b. keep b s) same ∙ sym d'.2)); world = d.3 ∙ sym d'.3 }
    one_step (judges j) s held new new' o o' r w r' w' d d' = record { outcome = single j s o o' d.0 d'.0; world = d.1 ∙ sym d'.1 }
    one_step (writes name text) s held new new' (refuses status line) o' r w r' w' d d' = absurd (never_one_more name (subst (OneMore name (λ n. 0)) w d.2.writes))
    one_step (writes name text) s held new new' (goes next) (refuses status line) r w r' w' d d' = absurd (never_one_more name (subst (OneMore name (λ n. 0)) w' d'.2.writes))
    one_step (writes name text) s held new new' (goes next) (goes next') r w r' w' d d' =
        record { outcome = ap goes (d.0 ∙ sym d'.0); world = same_world new' new (d.1.held ∙ sym d'.1.held) (d.1.reads ∙ sym d'.1.reads) (d.1.writes ∙ sym d'.1.writes) }

    -- a step that goes leaves a world in which no call has failed
    pub stays_calm : (step : Step J S) (s next : S) (held : Held) (new : World) → Does Judges step s (calm held) (goes next) new → (after : Held) × (new ≡ calm after)
    stays_calm (reads name limit keep) s next held new d = (held, d.3)
    stays_calm (judges j) s next held new d = (held, d.1)
    stays_calm (writes name text) s next held new d = let after = insert held name (text s) in (after, same_world (calm after) new d.1.held d.1.reads d.1.writes)

    -- at most one outcome
    pub one_outcome : (steps : List (Step J S)) (s : S) (held a a' : Held) (o o' : Outcome S) → Runs Judges steps s (calm held) o (calm a) → Runs Judges steps s (calm held) o' (calm a')
        → Same o o' (calm a) (calm a')
    one_outcome [] s held a a' o o' r r' = record { outcome = r.0 ∙ sym r'.0; world = r.1 ∙ sym r'.1 }
    one_outcome (step ∷ steps) s held a a' o o' (inl r) (inl r') = one_step step s held (calm a) (calm a') o o' refl refl refl refl r.1 r'.1
    one_outcome (step ∷ steps) s held a a' o o' (inl r) (inr r') =
        let c = stays_calm step s r'.0 held r'.1 r'.2 in
        let m = one_step step s held (calm a) (calm c.0) o (goes r'.0) refl refl refl refl r.1 (subst (Does Judges step s (calm held) (goes r'.0)) c.1 r'.2) in
        absurd (subst IsRefusal m.outcome r.0)
    one_outcome (step ∷ steps) s held a a' o o' (inr r) (inl r') =
        let c = stays_calm step s r.0 held r.1 r.2 in
        let m = one_step step s held (calm c.0) (calm a') (goes r.0) o' refl refl refl refl (subst (Does Judges step s (calm held) (goes r.0)) c.1 r.2) r'.1 in
        absurd (subst IsRefusal (sym m.outcome) r'.0)
    one_outcome (step ∷ steps) s held a a' o o' (inr r) (inr r') =
        let c = stays_calm step s r.0 held r.1 r.2 in
        let c' = stays_calm step s r'.0 held r'.1 r'.2 in
        let m = one_step step s held (calm c.0) (calm c'.0) (goes r.0) (goes r'.0) refl refl refl refl (subst (Does Judges step s (calm held) (goes r.0)) c.1 r.2) (subst (Does Judges step s (calm held) (goes r'.0)) c'.1 r'.2) in
        let e : goes r'.0 ≡ goes r.0 = sym m.outcome in
        let same : r'.0 ≡ r.0 = cc in
        one_outcome steps r.0 c.0 a a' o o' (subst (λ w. Runs Judges steps r.0 w o (calm a)) c.1 r.3)
        (subst (λ x. Runs Judges steps x (calm c.0) o' (calm a')) same (subst (λ w. Runs Judges steps r'.0 w o' (calm a')) (c'.1 ∙ sym m.world) r'.3))

  -- there is one, where each judgement has one
  module _ (total : (j : J) (s : S) → (o : Outcome S) × Judges j s o) where
    abbrev pub Some_outcome : List (Step J S) → S → Held → Type 0
    Some_outcome steps s held = (o : Outcome S) × (after : Held) × Runs Judges steps s (calm held) o (calm after)

    next_outcome : (step : Step J S) (steps : List (Step J S)) (s next : S) (held between : Held) → Does Judges step s (calm held) (goes next) (calm between) → Some_outcome steps next between → Some_outcome (step ∷ steps) s held
    next_outcome step steps s next held between d r = (r.0, r.1, inr (next, calm between, d, r.2))

    judged : (j : J) (steps : List (Step J S)) (s : S) (held : Held) → ((next : S) → Some_outcome steps next held) → (o : Outcome S) → Judges j s o → Some_outcome (judges j ∷ steps) s held
    judged j steps s held rest (refuses status text) d = (refuses status text, held, inl (tt, (d, refl)))
    judged j steps s held rest (goes next) d = next_outcome (judges j) steps s next held held (d, refl) (rest next)

    pub some_outcome : (steps : List (Step J S)) (s : S) (held : Held) → Some_outcome steps s held
    some_outcome [] s held = (goes s, held, (refl, refl))
    some_outcome (reads name limit keep ∷ steps) s held =
        let bytes = take (limit + 1) (bytes_at held name) in
        next_outcome (reads name limit keep) steps s (keep bytes s) held held (bytes, refl, refl, refl) (some_outcome steps (keep bytes s) held)
    some_outcome (judges j ∷ steps) s held = judged j steps s held (λ next. some_outcome steps next held) (total j s).0 (total j s).1
    some_outcome (writes name text ∷ steps) s held =
        let after = insert held name (text s) in
        next_outcome (writes name text) steps s s held after (refl, record { held = refl; reads = refl; writes = refl }) (some_outcome steps s after)

  -- ---- faults, and their causes

  -- what refuses: a read, a write, or a judgement
  pub record IsUnread (steps : List (Step J S)) (old new : World) (text : List ℕ) : Type 0 where
    pub name : List ℕ
    pub read : Reads steps name
    pub rose : old.reads name < new.reads name
    pub line : text ≡ unread_line name

  pub record IsUnwritten (steps : List (Step J S)) (old new : World) (text : List ℕ) : Type 0 where
    pub name : List ℕ
    pub written : Writes steps name
    pub rose : old.writes name < new.writes name
    pub line : text ≡ unwritten_line name

  pub data Refuses (Q : Status → Type 0) (steps : List (Step J S)) (old new : World) (status : Status) (text : List ℕ) : Type 0 where
    by_read : status ≡ ReadFault → IsUnread steps old new text → Refuses Q steps old new status text
    by_write : status ≡ WriteFault → IsUnwritten steps old new text → Refuses Q steps old new status text
    by_judgement : Q status → Refuses Q steps old new status text

  one_more : (name : List ℕ) (f g : List ℕ → ℕ) → OneMore name f g → f name < g name
  one_more name f g h = let e : g name ≡ f name + 1 = h.here in omega (arith, e)

  -- steps that go leave the counts of faults
  pub counts_stay : (step : Step J S) (s next : S) (old new : World) → Does Judges step s old (goes next) new → (new.reads ≡ old.reads) × (new.writes ≡ old.writes)
  counts_stay (reads name limit keep) s next old new d = (ap (λ w. w.reads) d.3, ap (λ w. w.writes) d.3)
  counts_stay (judges j) s next old new d = (ap (λ w. w.reads) d.1, ap (λ w. w.writes) d.1)
  counts_stay (writes name text) s next old new d = (d.1.reads, d.1.writes)

  module _ (P : J → Type 0) (Q : Status → Type 0) (fits : (j : J) (s : S) (status : Status) (text : List ℕ) → P j → Judges j s (refuses status text) → Q status) where
    later_read : (step : Step J S) (steps : List (Step J S)) (file : List ℕ) → Reads steps file → Reads (step ∷ steps) file
    later_read (reads name limit keep) steps file r = inr r
    later_read (judges j) steps file r = r
    later_read (writes name text) steps file r = r

    later_write : (step : Step J S) (steps : List (Step J S)) (file : List ℕ) → Writes steps file → Writes (step ∷ steps) file
    later_write (reads name limit keep) steps file r = r
    later_write (judges j) steps file r = r
    later_write (writes name text) steps file r = inr r

    later : (step : Step J S) (steps : List (Step J S)) (old between new : World) (status : Status) (text : List ℕ) → between.reads ≡ old.reads → between.writes ≡ old.writes
        → Refuses Q steps between new status text → Refuses Q (step ∷ steps) old new status text
    later step steps old between new status text r w (by_read is u) =
        by_read is (record { name = u.name; read = later_read step steps u.name u.read; rose = subst (λ f. f u.name < new.reads u.name) r u.rose; line = u.line })
    later step steps old between new status text r w (by_write is u) =
        by_write is (record { name = u.name; written = later_write step steps u.name u.written; rose = subst (λ f. f u.name < new.writes u.name) w u.rose; line = u.line })
    later step steps old between new status text r w (by_judgement q) = by_judgement q

    each_after : (step : Step J S) (steps : List (Step J S)) → Each P (step ∷ steps) → Each P steps
    each_after (reads name limit keep) steps e = e
    each_after (judges j) steps e = e.1
    each_after (writes name text) steps e = e

    pub refused_by : (steps : List (Step J S)) (s : S) (old new : World) (status : Status) (text : List ℕ) → Each P steps → Runs Judges steps s old (refuses status text) new → Refuses Q steps old new status text
    refused_by [] s old new status text each r = let e = r.0 in absurd (cc)
    refused_by (reads name limit keep ∷ steps) s old new status text each (inl r) =
        by_read r.1.0 (record { name = name; read = inl refl; rose = one_more name old.reads new.reads r.1.2.reads; line = r.1.1 })
    refused_by (judges j ∷ steps) s old new status text each (inl r) = by_judgement (fits j s status text each.0 r.1.0)
    refused_by (writes name line ∷ steps) s old new status text each (inl r) =
        by_write r.1.0 (record { name = name; written = inl refl; rose = one_more name old.writes new.writes r.1.2.writes; line = r.1.1 })
    refused_by (step ∷ steps) s old new status text each (inr r) =
        let c = counts_stay step s r.0 old r.1 r.2 in
        later step steps old r.1 new status text c.0 c.1 (refused_by steps r.0 r.1 new status text (each_after step steps each) r.3)

  -- where no count of the steps' calls rose, no call failed
  calm_read : (steps : List (Step J S)) (old new : World) (name : List ℕ) → IsCalm steps old new → Reads steps name → new.reads name ≤ old.reads name
  calm_read [] old new name c r = absurd r
  calm_read (reads file limit keep ∷ steps) old new name c (inl is) = subst (λ n. new.reads n ≤ old.reads n) (sym is) c.0
  calm_read (reads file limit keep ∷ steps) old new name c (inr r) = calm_read steps old new name c.1 r
  calm_read (judges j ∷ steps) old new name c r = calm_read steps old new name c r
  calm_read (writes file text ∷ steps) old new name c r = calm_read steps old new name c.1 r

  calm_write : (steps : List (Step J S)) (old new : World) (name : List ℕ) → IsCalm steps old new → Writes steps name → new.writes name ≤ old.writes name
  calm_write [] old new name c r = absurd r
  calm_write (reads file limit keep ∷ steps) old new name c r = calm_write steps old new name c.1 r
  calm_write (judges j ∷ steps) old new name c r = calm_write steps old new name c r
  calm_write (writes file text ∷ steps) old new name c (inl is) = subst (λ n. new.writes n ≤ old.writes n) (sym is) c.0
  calm_write (writes file text ∷ steps) old new name c (inr r) = calm_write steps old new name c.1 r

  pub not_unread : (steps : List (Step J S)) (old new : World) (text : List ℕ) → IsCalm steps old new → IsUnread steps old new text → ⊥
  not_unread steps old new text c u = let a = calm_read steps old new u.name c u.read in let b = u.rose in absurd (omega (arith, a, b))

  pub not_unwritten : (steps : List (Step J S)) (old new : World) (text : List ℕ) → IsCalm steps old new → IsUnwritten steps old new text → ⊥
  not_unwritten steps old new text c u = let a = calm_write steps old new u.name c u.written in let b = u.rose in absurd (omega (arith, a, b))
