-- Judgements alone come to one outcome and leave the world, where each judgement comes to one at most.
use Rattle.std.proofs.Common.{◌≡◌, inl, inr, List, [], ◌∷◌, sym, ◌∙◌, subst}
use Rattle.cg_driver_steps.specs.Steps.{Outcome, goes, IsRefusal, Runs, Settles, judged_first}
use Rattle.cg_driver_steps.specs.World.{World}

module _ {J S : Type 0} (Judges : J → S → Outcome S → Type 0) where
  -- what judgements as steps come to, and where they leave the world
  pub settled : (js : List J) (f : S) (old new : World) (o : Outcome S) → Runs Judges (judged_first js []) f old o new → Settles Judges js f o × (new ≡ old)
  settled [] f old new o r = r
  settled (j ∷ js) f old new o (inl r) = (inl (r.0, r.1.0), r.1.1)
  settled (j ∷ js) f old new o (inr r) =
      let rest = settled js r.0 r.1 new o r.3 in
      (inr (r.0, r.2.0, rest.0), rest.1 ∙ r.2.1)

  module _ (single : (j : J) (f : S) (o o' : Outcome S) → Judges j f o → Judges j f o' → o ≡ o') where
    -- where they go on, they come to nothing else
    pub once : (js : List J) (f next : S) (o : Outcome S) → Settles Judges js f (goes next) → Settles Judges js f o → o ≡ goes next
    once [] f next o a b = b ∙ sym a
    once (j ∷ js) f next o (inl a) b = absurd a.0
    once (j ∷ js) f next o (inr a) (inl b) = absurd (subst IsRefusal (single j f o (goes a.0) b.1 a.1) b.0)
    once (j ∷ js) f next o (inr a) (inr b) =
        let e : goes b.0 ≡ goes a.0 = single j f (goes b.0) (goes a.0) b.1 a.1 in
        let same : b.0 ≡ a.0 = cc in
        once js a.0 next o a.2 (subst (λ x. Settles Judges js x o) same b.2)
