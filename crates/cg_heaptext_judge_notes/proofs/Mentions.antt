-- What is noted of a mention.
use Rattle.std.proofs.Common.{◌≡◌, ℕ, ◌+◌, ◌≤◌, Bool, true, false, ◌&&◌, ◌||◌, nat_eq, List, [], ◌∷◌, ◌++◌, Some, Ok, Err, if◌then◌else◌, refl, sym, ap, ◌∙◌, subst, arith, eqb-true, Bor}
use Rattle.std.specs.List.{list_any}
use Rattle.cg_base.proofs.Counts.{eqb_same}
use Rattle.cg_base.proofs.Options.{some_is}
use Rattle.cg_base.proofs.Truths.{same_test}
use Rattle.cg_base.specs.declared.place.Place.{Place}
use Rattle.cg_base.specs.declared.ty.Ty.{Ty}
use Rattle.cg_base.specs.Types.{Tau, type_of}
use Rattle.cg_heaptext_def.specs.Footprints.{position_from}
use Rattle.cg_heaptext_def.specs.Reading.{mention}
use Rattle.cg_heaptext_judge_def.specs.Judging.{Met, State, after, kept, mentioning, run, shared, unlike, was_met}
use Rattle.cg_heaptext_judge_notes.specs.Notes.{AreMet, IsMet, IsNoted, Tells, is_shared_at, is_unlike_at}
use Rattle.cg_heaptext_judge_notes.specs.declared.fault.JudgeFault.TheVariants.{Misfit}
use Rattle.cg_heaptext_judge_notes.specs.declared.notes.Judged.{Judged}
use Rattle.cg_heaptext_judge_notes.specs.declared.notes.Mentioned.{Mentioned}

-- ---- one address stands at one position

no_earlier : (k : ℕ) (ns : List ℕ) (q i : ℕ) → position_from k ns q ≡ Some i → k ≤ i
no_earlier k [] q i e = absurd (cc)
no_earlier k (m ∷ ns) q i e =
    elim (nat_eq m q) as (λ b. (if b then Some k else position_from (k + 1) ns q) ≡ Some i → k ≤ i) [
      | true ↦ λ e. let same : k ≡ i = some_is k i e in omega (arith, same)
      | false ↦ λ e. omega (arith, no_earlier (k + 1) ns q i e)
    ] e

not_later : (k : ℕ) (ns : List ℕ) (q i : ℕ) → k ≡ i → position_from (k + 1) ns q ≡ Some i → ⊥
not_later k ns q i same e = absurd (omega (arith, same, no_earlier (k + 1) ns q i e))

one_address : (k : ℕ) (ns : List ℕ) (q r i : ℕ) → position_from k ns q ≡ Some i → position_from k ns r ≡ Some i → q ≡ r
one_address k [] q r i e f = absurd (cc)
one_address k (m ∷ ns) q r i e f = by_tests (nat_eq m q) (nat_eq m r) refl refl e f (λ e f. one_address (k + 1) ns q r i e f)
  where
    by_tests : (a b : Bool) → nat_eq m q ≡ a → nat_eq m r ≡ b → (if a then Some k else position_from (k + 1) ns q) ≡ Some i → (if b then Some k else position_from (k + 1) ns r) ≡ Some i
        → (position_from (k + 1) ns q ≡ Some i → position_from (k + 1) ns r ≡ Some i → q ≡ r) → q ≡ r
    by_tests true true h g e f others = sym (eqb-true m q h) ∙ eqb-true m r g
    by_tests true false h g e f others = absurd (not_later k ns r i (some_is k i e) f)
    by_tests false true h g e f others = absurd (not_later k ns q i (some_is k i f) e)
    by_tests false false h g e f others = others e f

-- ---- what is found among mentions by their entries is found by their addresses

module _ (ns : List ℕ) (q entry : ℕ) (at : position_from 0 ns q ≡ Some entry) where
  same_entry : (i r : ℕ) → position_from 0 ns r ≡ Some i → nat_eq i entry ≡ nat_eq r q
  same_entry i r e = same_test (nat_eq i entry) (nat_eq r q)
      (λ same. let is : r ≡ q = one_address 0 ns r q entry (e ∙ ap Some (eqb-true i entry same)) at in ap (λ x. nat_eq x q) is ∙ eqb_same q)
      (λ same. let is : i ≡ entry = some_is i entry (sym e ∙ ap (position_from 0 ns) (eqb-true r q same) ∙ at) in ap (λ x. nat_eq x entry) is ∙ eqb_same entry)

  met_same : (test : Tau → Bool) (ms : List Mentioned) (cs : List Met) → AreMet ns ms cs
      → list_any (λ (m : Mentioned). nat_eq m.entry entry && test (type_of m.ty.now)) ms ≡ was_met test cs q
  met_same test [] [] a = refl
  met_same test [] (c ∷ cs) a = absurd a
  met_same test (m ∷ ms) [] a = absurd a
  met_same test (m ∷ ms) (c ∷ cs) a =
      let e = same_entry m.entry c.address a.0.entry in let t = a.0.ty in let others = met_same test ms cs a.1 in λ i. (e i && test (t i)) || others i

  met_last : (ms : List Mentioned) (cs : List Met) (m : Mentioned) (c : Met) → AreMet ns ms cs → IsMet ns m c → AreMet ns (ms ++ m ∷ []) (cs ++ c ∷ [])
  met_last [] [] m c a is = (is, tt)
  met_last [] (d ∷ cs) m c a is = absurd a
  met_last (n ∷ ms) [] m c a is = absurd a
  met_last (n ∷ ms) (d ∷ cs) m c a is = (a.0, met_last ms cs m c a.1 is)

  module _ (old : Judged) (s : State) (noted : IsNoted ns old s) (p : Place) (ty : Bor Ty) where
    -- the mention doesn't fit
    pub unlike_told : (new : Judged) → list_any (is_unlike_at entry (type_of ty.now)) old.mentions ≡ true
        → Tells ns (run s (mention p q (type_of ty.now) ∷ [])) (Err (Misfit p)) new
    unlike_told new e =
        let t = type_of ty.now in
        let found : was_met (unlike t) s.cells q ≡ true = sym (met_same (unlike t) old.mentions s.cells noted.cells) ∙ e in
        subst (λ (b : Bool). Tells ns (after (if b then Err p else Ok (mentioning s p q t)) (λ s. Ok s)) (Err (Misfit p)) new) (sym found) refl

    -- or is noted
    pub mention_told : (new : Judged) → list_any (is_unlike_at entry (type_of ty.now)) old.mentions ≡ false → new.mentions ≡ old.mentions ++ record { place = p; entry = entry; ty = ty } ∷ []
        → new.over ≡ old.over → new.aliased ≡ kept old.aliased (list_any (is_shared_at entry (type_of ty.now)) old.mentions) p
        → Tells ns (run s (mention p q (type_of ty.now) ∷ [])) (Ok tt) new
    mention_told new e mentions over aliased =
        let t = type_of ty.now in
        let found : was_met (unlike t) s.cells q ≡ false = sym (met_same (unlike t) old.mentions s.cells noted.cells) ∙ e in
        let alias = met_same (shared t) old.mentions s.cells noted.cells in
        subst (λ (b : Bool). Tells ns (after (if b then Err p else Ok (mentioning s p q t)) (λ s. Ok s)) (Ok tt) new) (sym found) (record {
          cells = subst (λ ms. AreMet ns ms (s.cells ++ record { place = p; address = q; ty = t } ∷ [])) (sym mentions)
              (met_last old.mentions s.cells _ _ noted.cells (record { place = refl; entry = at; ty = refl }));
          over = over ∙ noted.over;
          aliased = aliased ∙ (λ i. kept (noted.aliased i) (alias i) p);
        })
