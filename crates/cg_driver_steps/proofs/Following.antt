-- From what the functions for some steps did to what a function for more of them did.
use Rattle.std.proofs.Common.{◌≡◌, inl, inr, ℕ, List, [], ◌∷◌, ◌++◌, Result, Ok, Err, refl, subst}
use Rattle.std.specs.Prelude.{Vec}
use Rattle.std.specs.declared.alloc.Global.{Global}
use Rattle.cg_base.specs.declared.memory.Memory.{Memory}
use Rattle.cg_driver_steps.specs.declared.report.Report.{Report}
use Rattle.cg_driver_steps.specs.declared.report.Step.{Step as Taken}
use Rattle.cg_driver_steps.specs.declared.report.Step.TheVariants.{Goes, Ends}
use Rattle.cg_driver_steps.specs.declared.status.Status.TheVariants.{ReadFault, WriteFault}
use Rattle.cg_driver_steps.specs.World.{World}
use Rattle.cg_driver_steps.specs.Steps.{Outcome, refuses, goes, Step, reads, writes, unread_line, unwritten_line, judged_first}
use Rattle.cg_driver_steps.specs.Parts.{HasRead, HasWritten, Leads, Judged, Concludes, Rules}
use Rattle.cg_driver_steps.proofs.Joining.{then_runs, then_stops, ends_runs, ends_stops, stops_before, then_settles, ends_settles, judged_runs, judged_stops, judged_ends}

module _ {J S : Type 0} (Judges : J → S → Outcome S → Type 0) where
  -- ---- single steps

  -- a read is a step
  pub read_leads : (name : List ℕ) (limit : ℕ) (keep : List ℕ → S → S) (s : S) (old new : World) (given : Result (Taken (Vec ℕ Global)) Memory) → HasRead name limit old new given
      → Leads Judges (λ bytes next. next ≡ keep bytes.items s) (reads name limit keep ∷ []) s old new given
  read_leads name limit keep s old new (Ok (Goes bytes)) h =
      (keep bytes.items s, inr (keep bytes.items s, new, (bytes.items, h.0, refl, h.1), (refl, refl)), refl)
  read_leads name limit keep s old new (Ok (Ends r)) h = inl (tt, (h.0.0, h.0.1, h.1))
  read_leads name limit keep s old new (Err e) (inl h) = inl h
  read_leads name limit keep s old new (Err e) (inr h) = inr (inl (refuses ReadFault (unread_line name), tt, (refl, refl, h)))

  -- a write is one
  pub write_leads : (name bytes : List ℕ) (text : S → List ℕ) (s : S) (old new : World) (given : Result (Taken Unit) Memory) → bytes ≡ text s → HasWritten name bytes old new given
      → Leads Judges (λ x next. next ≡ s) (writes name text ∷ []) s old new given
  write_leads name bytes text s old new given same h = go given (subst (λ b. HasWritten name b old new given) same h)
    where
      go : (given : Result (Taken Unit) Memory) → HasWritten name (text s) old new given → Leads Judges (λ x next. next ≡ s) (writes name text ∷ []) s old new given
      go (Ok (Goes x)) h = (s, inr (s, new, (refl, h), (refl, refl)), refl)
      go (Ok (Ends r)) h = inl (tt, (h.0.0, h.0.1, h.1))
      go (Err e) (inl h) = inl h
      go (Err e) (inr h) = inr (inl (refuses WriteFault (unwritten_line name), tt, (refl, refl, h)))

  -- ---- some steps, and then others

  -- steps that went, and what the rest says from each state that their value stands for
  pub follows : {T : Type 0} (Keeps : T → S → Type 0) (line : S → List ℕ → Type 0) (first rest : List (Step J S)) (s : S) (old between new : World) (given : Result (Taken T) Memory) (x : T) (r : Result Report Memory)
      → given ≡ Ok (Goes x) → Leads Judges Keeps first s old between given → ((next : S) → Keeps x next → Concludes Judges line rest next between new r)
      → Concludes Judges line (first ++ rest) s old new r
  follows Keeps line first rest s old between new given x r is a b =
      go r (subst (λ g. Leads Judges Keeps first s old between g) is a) b
    where
      go : (r : Result Report Memory) → Leads Judges Keeps first s old between (Ok (Goes x)) → ((next : S) → Keeps x next → Concludes Judges line rest next between new r) → Concludes Judges line (first ++ rest) s old new r
      go (Ok r) a b = let c = b a.0 a.2 in (c.0, then_runs Judges first rest s a.0 old between new c.0 a.1 c.1, c.2)
      go (Err e) a b = then_stops Judges first rest s a.0 old between new a.1 (b a.0 a.2)

  -- steps of which one refused
  pub ended : {T : Type 0} (Keeps : T → S → Type 0) (line : S → List ℕ → Type 0) (first rest : List (Step J S)) (s : S) (old new : World) (given : Result (Taken T) Memory) (r : Report)
      → given ≡ Ok (Ends r) → Leads Judges Keeps first s old new given → Concludes Judges line (first ++ rest) s old new (Ok r)
  ended Keeps line first rest s old new given r is a =
      let o : Outcome S = refuses r.status r.text.items in
      (o, ends_runs Judges first rest s old new o tt (subst (λ g. Leads Judges Keeps first s old new g) is a), (refl, refl))

  -- steps in which memory ran out
  pub halted : {T : Type 0} (Keeps : T → S → Type 0) (line : S → List ℕ → Type 0) (first rest : List (Step J S)) (s : S) (old new : World) (given : Result (Taken T) Memory) (e : Memory) (e' : Memory)
      → given ≡ Err e → Leads Judges Keeps first s old new given → Concludes Judges line (first ++ rest) s old new (Err e')
  halted Keeps line first rest s old new given e e' is a = ends_stops Judges first rest s old new (subst (λ g. Leads Judges Keeps first s old new g) is a)

  -- ---- judgements, and then steps

  pub judged_follows : {T : Type 0} (Keeps : T → S → Type 0) (line : S → List ℕ → Type 0) (js : List J) (rest : List (Step J S)) (s : S) (old new : World) (given : Result (Taken T) Memory) (x : T) (r : Result Report Memory)
      → given ≡ Ok (Goes x) → Judged Judges Keeps js s given → ((next : S) → Keeps x next → Concludes Judges line rest next old new r)
      → Concludes Judges line (judged_first js rest) s old new r
  judged_follows Keeps line js rest s old new given x r is a b = go r (subst (λ g. Judged Judges Keeps js s g) is a) b
    where
      go : (r : Result Report Memory) → Judged Judges Keeps js s (Ok (Goes x)) → ((next : S) → Keeps x next → Concludes Judges line rest next old new r) → Concludes Judges line (judged_first js rest) s old new r
      go (Ok r) a b = let c = b a.0 a.2 in (c.0, judged_runs Judges js rest s a.0 old new c.0 a.1 c.1, c.2)
      go (Err e) a b = judged_stops Judges js rest s a.0 old new a.1 (b a.0 a.2)

  pub judged_ended : {T : Type 0} (Keeps : T → S → Type 0) (line : S → List ℕ → Type 0) (js : List J) (rest : List (Step J S)) (s : S) (old : World) (given : Result (Taken T) Memory) (r : Report)
      → given ≡ Ok (Ends r) → Judged Judges Keeps js s given → Concludes Judges line (judged_first js rest) s old old (Ok r)
  judged_ended Keeps line js rest s old given r is a =
      let o : Outcome S = refuses r.status r.text.items in
      (o, judged_ends Judges js rest s old o tt (subst (λ g. Judged Judges Keeps js s g) is a), (refl, refl))

  pub judged_halted : (line : S → List ℕ → Type 0) (steps : List (Step J S)) (s : S) (old : World) (e : Memory) → Concludes Judges line steps s old old (Err e)
  judged_halted line steps s old e = stops_before Judges steps s old

  -- the last judgements of a command are its last steps
  pub rules_conclude : (line : S → List ℕ → Type 0) (js : List J) (s : S) (old : World) (r : Result Report Memory) → Rules Judges line js s r → Concludes Judges line (judged_first js []) s old old r
  rules_conclude line js s old (Ok r) (refuses status text, a, is) = (refuses status text, judged_ends Judges js [] s old (refuses status text) tt a, is)
  rules_conclude line js s old (Ok r) (goes next, a, is) = (goes next, judged_runs Judges js [] s next old old (goes next) a (refl, refl), is)
  rules_conclude line js s old (Err e) a = stops_before Judges (judged_first js []) s old

  -- ---- judgements, and then judgements

  pub rules_follow : {T : Type 0} (Keeps : T → S → Type 0) (line : S → List ℕ → Type 0) (first rest : List J) (s : S) (given : Result (Taken T) Memory) (x : T) (r : Result Report Memory)
      → given ≡ Ok (Goes x) → Judged Judges Keeps first s given → ((next : S) → Keeps x next → Rules Judges line rest next r) → Rules Judges line (first ++ rest) s r
  rules_follow Keeps line first rest s given x r is a b = go r (subst (λ g. Judged Judges Keeps first s g) is a) b
    where
      go : (r : Result Report Memory) → Judged Judges Keeps first s (Ok (Goes x)) → ((next : S) → Keeps x next → Rules Judges line rest next r) → Rules Judges line (first ++ rest) s r
      go (Ok r) a b = let c = b a.0 a.2 in (c.0, then_settles Judges first rest s a.0 c.0 a.1 c.1, c.2)
      go (Err e) a b = tt

  pub rules_ended : {T : Type 0} (Keeps : T → S → Type 0) (line : S → List ℕ → Type 0) (first rest : List J) (s : S) (given : Result (Taken T) Memory) (r : Report)
      → given ≡ Ok (Ends r) → Judged Judges Keeps first s given → Rules Judges line (first ++ rest) s (Ok r)
  rules_ended Keeps line first rest s given r is a =
      let o : Outcome S = refuses r.status r.text.items in
      (o, ends_settles Judges first rest s o tt (subst (λ g. Judged Judges Keeps first s g) is a), (refl, refl))

  -- the same for functions that go on
  pub judged_then : {T U : Type 0} (Keeps : T → S → Type 0) (Keeps' : U → S → Type 0) (first rest : List J) (s : S) (given : Result (Taken T) Memory) (x : T) (r : Result (Taken U) Memory)
      → given ≡ Ok (Goes x) → Judged Judges Keeps first s given → ((next : S) → Keeps x next → Judged Judges Keeps' rest next r) → Judged Judges Keeps' (first ++ rest) s r
  judged_then Keeps Keeps' first rest s given x r is a b = go r (subst (λ g. Judged Judges Keeps first s g) is a) b
    where
      go : (r : Result (Taken _) Memory) → Judged Judges Keeps first s (Ok (Goes x)) → ((next : S) → Keeps x next → Judged Judges Keeps' rest next r) → Judged Judges Keeps' (first ++ rest) s r
      go (Ok (Goes y)) a b = let c = b a.0 a.2 in (c.0, then_settles Judges first rest s a.0 (goes c.0) a.1 c.1, c.2)
      go (Ok (Ends r)) a b = then_settles Judges first rest s a.0 (refuses r.status r.text.items) a.1 (b a.0 a.2)
      go (Err e) a b = tt

  pub judged_out : {T U : Type 0} (Keeps : T → S → Type 0) (Keeps' : U → S → Type 0) (first rest : List J) (s : S) (given : Result (Taken T) Memory) (r : Report)
      → given ≡ Ok (Ends r) → Judged Judges Keeps first s given → Judged Judges Keeps' (first ++ rest) s (Ok (Ends r))
  judged_out Keeps Keeps' first rest s given r is a =
      ends_settles Judges first rest s (refuses r.status r.text.items) tt (subst (λ g. Judged Judges Keeps first s g) is a)
