-- What is noted of things that are met one by one is what is asked of all of them.
use Rattle.std.proofs.Common.{◌≡◌, ℕ, Bool, true, false, List, [], ◌∷◌, ◌++◌, Option, Some, None, Result, Ok, Err, if◌then◌else◌, refl, sym, ap, ◌∙◌, subst, append_assoc}
use Rattle.std.proofs.lemmas.Bool.{true≢false}
use Rattle.cg_base.proofs.Sequences.{append_none}
use Rattle.cg_base.specs.declared.place.Place.{Place}
use Rattle.cg_base.specs.Types.{Tau}
use Rattle.cg_heaptext_def.specs.HeapText.{FirstOf, IsAliased, IsMisfit, Nowhere}
use Rattle.cg_heaptext_def.specs.Reading.{Event, misfit, counted, mention}
use Rattle.cg_heaptext_judge_def.specs.Judging.{IsFirstAlias, IsOverIn, Judges, State, after, judged, kept, mentioning, met_in, run, shared, start, unlike, was_met}
use Rattle.cg_heaptext_judge_laws.proofs.Fronts.{first_here, first_stays, nowhere_more, nowhere_none}
use Rattle.cg_heaptext_judge_laws.proofs.Mentioned.{differs_unlike, is_met, mentioned_then, met_is, met_more, unlike_differs}
use Rattle.cg_heaptext_judge_laws.proofs.Over.{over_counted, over_places, over_same, those_over}
use Rattle.cg_heaptext_places.proofs.Noting.{least_of}
use Rattle.cg_heaptext_places.specs.Noted.{noted_all}

-- what was noted of some things, of which none misfitted
record Kept (front : List Event) (s : State) : Type 0 where
  cells : s.cells ≡ met_in front
  over : s.over ≡ noted_all None (over_places front)
  aliased : IsFirstAlias front s.aliased
  fits : Nowhere IsMisfit front

-- ---- one more thing

-- it is no alias
alias_stays : (front : List Event) (e : Event) (found : Option Place) → ((p : Place) → IsAliased front e p → ⊥) → IsFirstAlias front found → IsFirstAlias (front ++ e ∷ []) found
alias_stays front e None never a = nowhere_more IsAliased front e a never
alias_stays front e (Some p) never a = first_stays IsAliased front (e ∷ []) p a

-- or it is a mention
alias_more : (front : List Event) (p : Place) (q : ℕ) (t : Tau) (found : Option Place) (is : Bool) → was_met (shared t) (met_in front) q ≡ is
    → IsFirstAlias front found → IsFirstAlias (front ++ mention p q t ∷ []) (kept found is p)
alias_more front p q t (Some other) is e a = first_stays IsAliased front (mention p q t ∷ []) other a
alias_more front p q t None true e a = first_here IsAliased front [] (mention p q t) p a (refl, met_is (shared t) front q e)
alias_more front p q t None false e a = nowhere_more IsAliased front (mention p q t) a (λ o m. true≢false (sym (is_met (shared t) front q m.1) ∙ e))

abbrev Steps : List Event → Event → Result State Place → Type 0
Steps front e (Ok s) = Kept (front ++ e ∷ []) s
Steps front e (Err p) = IsMisfit front e p

mention_kept : (front : List Event) (s : State) (p : Place) (q : ℕ) (t : Tau) → Kept front s → was_met (unlike t) s.cells q ≡ false
    → Kept (front ++ mention p q t ∷ []) (mentioning s p q t)
mention_kept front s p q t k e = record {
  cells = ap (λ ms. ms ++ record { place = p; address = q; ty = t } ∷ []) k.cells ∙ sym (met_more front (mention p q t));
  over = over_same front (mention p q t) s.over refl k.over;
  aliased = alias_more front p q t s.aliased (was_met (shared t) s.cells q) (ap (λ ms. was_met (shared t) ms q) (sym k.cells)) k.aliased;
  fits = nowhere_more IsMisfit front (mention p q t) k.fits (λ o m.
      true≢false (sym (is_met (unlike t) front q (mentioned_then _ _ front q (differs_unlike t) m.1)) ∙ ap (λ ms. was_met (unlike t) ms q) (sym k.cells) ∙ e));
}

step : (front : List Event) (s : State) (e : Event) → Kept front s → Steps front e (judged s e)
step front s (misfit p) k = refl
step front s (counted n bound) k = record {
  cells = k.cells ∙ sym (append_none (met_in front)) ∙ sym (met_more front (counted n bound));
  over = over_counted front n bound s.over k.over;
  aliased = alias_stays front (counted n bound) s.aliased (λ p never. never) k.aliased;
  fits = nowhere_more IsMisfit front (counted n bound) k.fits (λ p never. never);
}
step front s (mention p q t) k =
    elim (was_met (unlike t) s.cells q) as (λ b. was_met (unlike t) s.cells q ≡ b → Steps front (mention p q t) (if b then Err p else Ok (mentioning s p q t))) [
      | true ↦ λ e. (refl, mentioned_then _ _ front q (unlike_differs t) (met_is (unlike t) front q (ap (λ ms. was_met (unlike t) ms q) (sym k.cells) ∙ e)))
      | false ↦ λ e. mention_kept front s p q t k e
    ] refl

-- ---- all

abbrev Ends : List Event → Result State Place → Type 0
Ends whole (Ok s) = Kept whole s
Ends whole (Err p) = FirstOf IsMisfit whole p

runs : (es front : List Event) (s : State) → Kept front s → Ends (front ++ es) (run s es)
runs [] front s k = subst (λ whole. Kept whole s) (sym (append_none front)) k
runs (e ∷ es) front s k = go_on (judged s e) (step front s e k) (λ next h. runs es (front ++ e ∷ []) next h)
  where
    go_on : (r : Result State Place) → Steps front e r → ((next : State) → Kept (front ++ e ∷ []) next → Ends ((front ++ e ∷ []) ++ es) (run next es))
        → Ends (front ++ e ∷ es) (after r (λ s. run s es))
    go_on (Ok next) h others = subst (λ whole. Ends whole (run next es)) (append_assoc front (e ∷ []) es) (others next h)
    go_on (Err p) h others = first_here IsMisfit front es e p k.fits h

told : (es : List Event) (r : Result State Place) → Ends es r → Judges es r
told es (Ok s) k = (k.fits, least_of (IsOverIn es) s.over (over_places es) k.over (those_over es), k.aliased, k.cells)
told es (Err p) first = first

pub runs_judge : (es : List Event) → Judges es (run start es)
runs_judge es = told es (run start es) (runs es [] start (record { cells = refl; over = refl; aliased = nowhere_none IsAliased; fits = nowhere_none IsMisfit }))
