-- Lists of steps put together, lists of judgements as steps, and what steps leave alone.
use Rattle.std.proofs.Common.{◌≡◌, inl, inr, List, [], ◌∷◌, ◌++◌, refl, sym, ap, ◌∙◌, subst}
use Rattle.cg_driver_steps.specs.World.{World, Unwritten}
use Rattle.cg_driver_steps.specs.Steps.{Outcome, refuses, goes, IsRefusal, Step, reads, judges, writes, Does, Runs, Stops, Settles, judged_first, WritesNone}

-- where three parts of a world stay, it stays
pub same_world : (old new : World) → new.held ≡ old.held → new.reads ≡ old.reads → new.writes ≡ old.writes → new ≡ old
same_world old new h r w = λ i. record { held = h i; reads = r i; writes = w i }

module _ {J S : Type 0} (Judges : J → S → Outcome S → Type 0) where
  -- steps that go, and then others
  pub then_runs : (first rest : List (Step J S)) (s next : S) (old between new : World) (o : Outcome S)
      → Runs Judges first s old (goes next) between → Runs Judges rest next between o new → Runs Judges (first ++ rest) s old o new
  then_runs [] rest s next old between new o r q =
      let same : next ≡ s = (let e = r.0 in cc) in
      subst (λ x. Runs Judges rest x old o new) same (subst (λ w. Runs Judges rest next w o new) r.1 q)
  then_runs (step ∷ first) rest s next old between new o (inl r) q = absurd r.0
  then_runs (step ∷ first) rest s next old between new o (inr r) q = inr (r.0, r.1, r.2, then_runs first rest r.0 next r.1 between new o r.3 q)

  pub then_stops : (first rest : List (Step J S)) (s next : S) (old between new : World)
      → Runs Judges first s old (goes next) between → Stops Judges rest next between new → Stops Judges (first ++ rest) s old new
  then_stops [] rest s next old between new r q =
      let same : next ≡ s = (let e = r.0 in cc) in
      subst (λ x. Stops Judges rest x old new) same (subst (λ w. Stops Judges rest next w new) r.1 q)
  then_stops (step ∷ first) rest s next old between new (inl r) q = absurd r.0
  then_stops (step ∷ first) rest s next old between new (inr r) q = inr (inr (r.0, r.1, r.2, then_stops first rest r.0 next r.1 between new r.3 q))

  -- steps that refuse, whatever would come after them
  pub ends_runs : (first rest : List (Step J S)) (s : S) (old new : World) (o : Outcome S) → IsRefusal o → Runs Judges first s old o new → Runs Judges (first ++ rest) s old o new
  ends_runs [] rest s old new o refused r = absurd (subst IsRefusal r.0 refused)
  ends_runs (step ∷ first) rest s old new o refused (inl r) = inl r
  ends_runs (step ∷ first) rest s old new o refused (inr r) = inr (r.0, r.1, r.2, ends_runs first rest r.0 r.1 new o refused r.3)

  -- memory may run out before any step
  pub stops_before : (steps : List (Step J S)) (s : S) (old : World) → Stops Judges steps s old old
  stops_before [] s old = refl
  stops_before (step ∷ steps) s old = inl refl

  -- in steps in which memory runs out, whatever would come after them
  pub ends_stops : (first rest : List (Step J S)) (s : S) (old new : World) → Stops Judges first s old new → Stops Judges (first ++ rest) s old new
  ends_stops [] rest s old new r = subst (λ w. Stops Judges rest s old w) (sym r) (stops_before rest s old)
  ends_stops (step ∷ first) rest s old new (inl r) = inl r
  ends_stops (step ∷ first) rest s old new (inr (inl r)) = inr (inl r)
  ends_stops (step ∷ first) rest s old new (inr (inr r)) = inr (inr (r.0, r.1, r.2, ends_stops first rest r.0 r.1 new r.3))

  -- and once all steps were gone through, or one refused
  pub stops_after : (steps : List (Step J S)) (s : S) (old new : World) (o : Outcome S) → Runs Judges steps s old o new → Stops Judges steps s old new
  stops_after [] s old new o r = r.1
  stops_after (step ∷ steps) s old new o (inl r) = inr (inl (o, r.0, r.1))
  stops_after (step ∷ steps) s old new o (inr r) = inr (inr (r.0, r.1, r.2, stops_after steps r.0 r.1 new o r.3))

  -- ---- judgements alone

  -- judgements that go, and then others
  pub then_settles : (first rest : List J) (s next : S) (o : Outcome S) → Settles Judges first s (goes next) → Settles Judges rest next o → Settles Judges (first ++ rest) s o
  then_settles [] rest s next o r q = let same : next ≡ s = (let e = r in cc) in subst (λ x. Settles Judges rest x o) same q
  then_settles (j ∷ first) rest s next o (inl r) q = absurd r.0
  then_settles (j ∷ first) rest s next o (inr r) q = inr (r.0, r.1, then_settles first rest r.0 next o r.2 q)

  -- judgements that refuse, whatever would come after them
  pub ends_settles : (first rest : List J) (s : S) (o : Outcome S) → IsRefusal o → Settles Judges first s o → Settles Judges (first ++ rest) s o
  ends_settles [] rest s o refused r = absurd (subst IsRefusal r refused)
  ends_settles (j ∷ first) rest s o refused (inl r) = inl r
  ends_settles (j ∷ first) rest s o refused (inr r) = inr (r.0, r.1, ends_settles first rest r.0 o refused r.2)

  -- judgements that go leave the world as it is for the steps behind them
  pub judged_runs : (js : List J) (rest : List (Step J S)) (s next : S) (old new : World) (o : Outcome S)
      → Settles Judges js s (goes next) → Runs Judges rest next old o new → Runs Judges (judged_first js rest) s old o new
  judged_runs [] rest s next old new o r q = let same : next ≡ s = (let e = r in cc) in subst (λ x. Runs Judges rest x old o new) same q
  judged_runs (j ∷ js) rest s next old new o (inl r) q = absurd r.0
  judged_runs (j ∷ js) rest s next old new o (inr r) q = inr (r.0, old, (r.1, refl), judged_runs js rest r.0 next old new o r.2 q)

  pub judged_stops : (js : List J) (rest : List (Step J S)) (s next : S) (old new : World)
      → Settles Judges js s (goes next) → Stops Judges rest next old new → Stops Judges (judged_first js rest) s old new
  judged_stops [] rest s next old new r q = let same : next ≡ s = (let e = r in cc) in subst (λ x. Stops Judges rest x old new) same q
  judged_stops (j ∷ js) rest s next old new (inl r) q = absurd r.0
  judged_stops (j ∷ js) rest s next old new (inr r) q = inr (inr (r.0, old, (r.1, refl), judged_stops js rest r.0 next old new r.2 q))

  -- judgements of which one refuses
  pub judged_ends : (js : List J) (rest : List (Step J S)) (s : S) (old : World) (o : Outcome S) → IsRefusal o → Settles Judges js s o → Runs Judges (judged_first js rest) s old o old
  judged_ends [] rest s old o refused r = absurd (subst IsRefusal r refused)
  judged_ends (j ∷ js) rest s old o refused (inl r) = inl (r.0, (r.1, refl))
  judged_ends (j ∷ js) rest s old o refused (inr r) = inr (r.0, old, (r.1, refl), judged_ends js rest r.0 old o refused r.2)

  -- ---- what stays

  unwritten_step : (step : Step J S) (steps : List (Step J S)) (s : S) (old new : World) (o : Outcome S) → WritesNone (step ∷ steps) → Does Judges step s old o new → Unwritten old new
  unwritten_step (reads name limit keep) steps s old new (refuses status text) none d = record { held = d.2.held; writes = d.2.writes }
  unwritten_step (reads name limit keep) steps s old new (goes next) none d = record { held = ap (λ w. w.held) d.3; writes = ap (λ w. w.writes) d.3 }
  unwritten_step (judges j) steps s old new o none d = record { held = ap (λ w. w.held) d.1; writes = ap (λ w. w.writes) d.1 }
  unwritten_step (writes name text) steps s old new o none d = absurd none

  none_after : (step : Step J S) (steps : List (Step J S)) → WritesNone (step ∷ steps) → WritesNone steps
  none_after (reads name limit keep) steps none = none
  none_after (judges j) steps none = none
  none_after (writes name text) steps none = absurd none

  both : (old between new : World) → Unwritten old between → Unwritten between new → Unwritten old new
  both old between new a b = record { held = b.held ∙ a.held; writes = b.writes ∙ a.writes }

  -- steps that write none have written none, wherever they came to
  pub unwritten : (steps : List (Step J S)) (s : S) (old new : World) → WritesNone steps → Stops Judges steps s old new → Unwritten old new
  unwritten [] s old new none r = record { held = ap (λ w. w.held) r; writes = ap (λ w. w.writes) r }
  unwritten (step ∷ steps) s old new none (inl r) = record { held = ap (λ w. w.held) r; writes = ap (λ w. w.writes) r }
  unwritten (step ∷ steps) s old new none (inr (inl r)) = unwritten_step step steps s old new r.0 none r.2
  unwritten (step ∷ steps) s old new none (inr (inr r)) =
      both old r.1 new (unwritten_step step steps s old r.1 (goes r.0) none r.2) (unwritten steps r.0 r.1 new (none_after step steps none) r.3)
