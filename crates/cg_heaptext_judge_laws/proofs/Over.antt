-- Which numbers pass their types.
use Rattle.std.proofs.Common.{◌≡◌, ℕ, zero, suc, ◌≤◌, Bool, true, false, List, [], ◌∷◌, ◌++◌, slice_get, Option, Some, None, if◌then◌else◌, refl, sym, ap, ◌∙◌, subst, arith}
use Rattle.std.proofs.lemmas.Bool.Decides.{nat_tests}
use Rattle.std.specs.Prelude.{nat_le}
use Rattle.cg_base.proofs.Options.{some_is}
use Rattle.cg_base.proofs.Sequences.{append_none}
use Rattle.cg_base.specs.declared.place.Place.{Place}
use Rattle.cg_heaptext_def.specs.Reading.{Event, misfit, counted, mention}
use Rattle.cg_heaptext_def.specs.Trees.{Numeral, amount}
use Rattle.cg_heaptext_judge_def.specs.Judging.{IsOverIn, counting}
use Rattle.cg_heaptext_places.proofs.Noting.{noted_more}
use Rattle.cg_heaptext_places.specs.Noted.{AreThose, noted, noted_all}

passes : (m n : ℕ) → nat_le m n ≡ true → m ≤ n
passes m n e = grind (arith, nat_tests)

passed : (m n : ℕ) → m ≤ n → nat_le m n ≡ true
passed m n l = grind (arith, nat_tests)

-- their places
abbrev pub over_places : List Event → List Place
over_places [] = []
over_places (misfit p ∷ es) = over_places es
over_places (counted n bound ∷ es) = if nat_le bound (amount n) then n.place ∷ over_places es else over_places es
over_places (mention p q t ∷ es) = over_places es

-- ---- those are all

over_later : (x : Event) (es : List Event) (p : Place) → IsOverIn es p → IsOverIn (x ∷ es) p
over_later x es p o = (suc o.0, o.1, o.2, o.3, o.4, o.5)

here_or_later : (n : Numeral) (bound : ℕ) (es : List Event) (p : Place) → bound ≤ amount n → ((i : ℕ) → slice_get (over_places es) i ≡ Some p → IsOverIn es p)
    → (i : ℕ) → slice_get (n.place ∷ over_places es) i ≡ Some p → IsOverIn (counted n bound ∷ es) p
here_or_later n bound es p l others zero e = (zero, bound, n, refl, l, sym (some_is n.place p e))
here_or_later n bound es p l others (suc i) e = over_later (counted n bound) es p (others i e)

are_over : (es : List Event) (i : ℕ) (p : Place) → slice_get (over_places es) i ≡ Some p → IsOverIn es p
are_over [] i p e = absurd (cc)
are_over (misfit o ∷ es) i p e = over_later (misfit o) es p (are_over es i p e)
are_over (mention o q t ∷ es) i p e = over_later (mention o q t) es p (are_over es i p e)
are_over (counted n bound ∷ es) i p e =
    elim (nat_le bound (amount n)) as (λ b. nat_le bound (amount n) ≡ b → slice_get (if b then n.place ∷ over_places es else over_places es) i ≡ Some p → IsOverIn (counted n bound ∷ es) p) [
      | true ↦ λ l e. here_or_later n bound es p (passes bound (amount n) l) (λ i e. are_over es i p e) i e
      | false ↦ λ l e. over_later (counted n bound) es p (are_over es i p e)
    ] refl e

abbrev Among : Place → List Place → Type 0
Among p ps = (i : ℕ) × (slice_get ps i ≡ Some p)

among_more : (b : Bool) (o p : Place) (ps : List Place) → Among p ps → Among p (if b then o ∷ ps else ps)
among_more true o p ps a = (suc a.0, a.1)
among_more false o p ps a = a

all_over : (es : List Event) (p : Place) (i bound : ℕ) (n : Numeral) → slice_get es i ≡ Some (counted n bound) → bound ≤ amount n → p ≡ n.place → Among p (over_places es)
all_over [] p i bound n e l at = absurd (cc)
all_over (x ∷ es) p zero bound n e l at =
    subst (λ y. Among p (over_places (y ∷ es))) (sym (some_is x (counted n bound) e))
    (subst (λ (b : Bool). Among p (if b then n.place ∷ over_places es else over_places es)) (sym (passed bound (amount n) l)) (zero, ap Some (sym at)))
all_over (misfit o ∷ es) p (suc i) bound n e l at = all_over es p i bound n e l at
all_over (mention o q t ∷ es) p (suc i) bound n e l at = all_over es p i bound n e l at
all_over (counted m limit ∷ es) p (suc i) bound n e l at = among_more (nat_le limit (amount m)) m.place p (over_places es) (all_over es p i bound n e l at)

pub those_over : (es : List Event) → AreThose (IsOverIn es) (over_places es)
those_over es = record { hold = are_over es; all = λ p o. all_over es p o.0 o.1 o.2 o.3 o.4 o.5 }

-- ---- one more thing

over_both : (b : Bool) (o : Place) (es : List Event) (ps qs : List Place) → ps ≡ over_places es ++ qs → (if b then o ∷ ps else ps) ≡ (if b then o ∷ over_places es else over_places es) ++ qs
over_both true o es ps qs e = ap (λ xs. o ∷ xs) e
over_both false o es ps qs e = e

pub over_more : (es : List Event) (e : Event) → over_places (es ++ e ∷ []) ≡ over_places es ++ over_places (e ∷ [])
over_more [] e = refl
over_more (misfit p ∷ es) e = over_more es e
over_more (mention p q t ∷ es) e = over_more es e
over_more (counted n bound ∷ es) e = over_both (nat_le bound (amount n)) n.place es (over_places (es ++ e ∷ [])) (over_places (e ∷ [])) (over_more es e)

-- where it is no number that passes its type
pub over_same : (es : List Event) (e : Event) (over : Option Place) → over_places (e ∷ []) ≡ [] → over ≡ noted_all None (over_places es) → over ≡ noted_all None (over_places (es ++ e ∷ []))
over_same es e over none is = is ∙ ap (noted_all None) (sym (over_more es e ∙ ap (λ ps. over_places es ++ ps) none ∙ append_none (over_places es)))

-- and where it is a number
pub over_counted : (es : List Event) (n : Numeral) (bound : ℕ) (over : Option Place) → over ≡ noted_all None (over_places es)
    → counting over n bound ≡ noted_all None (over_places (es ++ counted n bound ∷ []))
over_counted es n bound over is = by_test (nat_le bound (amount n)) ∙ ap (noted_all None) (sym (over_more es (counted n bound)))
  where
    by_test : (b : Bool) → (if b then noted over n.place else over) ≡ noted_all None (over_places es ++ (if b then n.place ∷ [] else []))
    by_test true = ap (λ found. noted found n.place) is ∙ sym (noted_more None (over_places es) n.place)
    by_test false = is ∙ ap (noted_all None) (sym (append_none (over_places es)))
