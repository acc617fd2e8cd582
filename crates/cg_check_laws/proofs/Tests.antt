-- Tests of splits and of drops: where they say yes, the marks split the context, and its entries may be dropped.
use Rattle.std.proofs.Common.{◌≡◌, ◌≢◌, ◌<◌, ℕ, zero, suc, Bool, true, false, ◌&&◌, ◌||◌, not, IsTrue, Option, Some, None, List, [], ◌∷◌, length, nat_eq, nat_lt, refl, subst, arith, eqb-true, ltb-true}
use Rattle.std.proofs.lemmas.List.Elements.{All-nil, All-cons}
use Rattle.std.specs.List.{All}
use Rattle.cg_base.specs.declared.kind.Kinds.{Kinds}
use Rattle.cg_base.specs.Types.{Tau}
use Rattle.cg_core.specs.declared.derivation.Mark.{Mark}
use Rattle.cg_core.specs.declared.derivation.Mark.TheVariants.{Gone, Left, Right, Both, Seen}
use Rattle.cg_core.specs.declared.term.Seen.{Seen as Observer}
use Rattle.cg_typing.specs.Contexts.{Context, look, mark_at, among, Fits, Splits, Drops, DropsBut, drops, shares}
use Rattle.cg_base.proofs.Truths.{both_true as and_left, and_right, not_true}

module _ (vars : List Kinds) where
  -- a mark fits an entry
  abbrev pub fits_test : Bool → Mark → Option Tau → Bool
  fits_test observed Gone None = not observed
  fits_test observed Left (Some t) = not observed
  fits_test observed Right (Some t) = not observed
  fits_test observed Both (Some t) = shares vars t && not observed
  fits_test observed Seen (Some t) = observed
  fits_test observed _ _ = false

  fit : (observed : Bool) (m : Mark) (o : Option Tau) → fits_test observed m o ≡ true → Fits vars observed m o
  fit observed Gone None e = not_true observed e
  fit observed Left (Some t) e = not_true observed e
  fit observed Right (Some t) e = not_true observed e
  fit observed Both (Some t) e = (and_left (shares vars t) (not observed) e, not_true observed (and_right (shares vars t) (not observed) e))
  fit observed Seen (Some t) e = e
  fit observed Gone (Some t) e = absurd (cc)
  fit observed Left None e = absurd (cc)
  fit observed Right None e = absurd (cc)
  fit observed Both None e = absurd (cc)
  fit observed Seen None e = absurd (cc)

  -- the marks fit the entries in order, of which it is told which are observed
  abbrev pub splits_test : (ℕ → Bool) → List Mark → Context → Bool
  splits_test observed [] [] = true
  splits_test observed (m ∷ ms) (o ∷ g) = fits_test (observed zero) m o && splits_test (λ i. observed (suc i)) ms g
  splits_test observed _ _ = false

  as_long : (observed : ℕ → Bool) (ms : List Mark) (g : Context) → splits_test observed ms g ≡ true → length ms ≡ length g
  as_long observed [] [] e = refl
  as_long observed (m ∷ ms) (o ∷ g) e =
      let later : length ms ≡ length g = as_long (λ i. observed (suc i)) ms g (and_right (fits_test (observed zero) m o) _ e) in omega arith
  as_long observed [] (o ∷ g) e = absurd (cc)
  as_long observed (m ∷ ms) [] e = absurd (cc)

  fits_each : (observed : ℕ → Bool) (ms : List Mark) (g : Context) → splits_test observed ms g ≡ true
      → (i : ℕ) → i < length g → Fits vars (observed i) (mark_at ms i) (look g i)
  fits_each observed [] [] e i below = absurd (omega arith)
  fits_each observed (m ∷ ms) (o ∷ g) e zero below = fit (observed zero) m o (and_left (fits_test (observed zero) m o) _ e)
  fits_each observed (m ∷ ms) (o ∷ g) e (suc i) below =
      fits_each (λ j. observed (suc j)) ms g (and_right (fits_test (observed zero) m o) _ e) i (omega arith)
  fits_each observed [] (o ∷ g) e i below = absurd (cc)
  fits_each observed (m ∷ ms) [] e i below = absurd (cc)

  -- the observers are entries
  abbrev pub observers_test : List Observer → ℕ → Bool
  observers_test [] n = true
  observers_test (o ∷ os) n = nat_lt o.var n && observers_test os n

  observers_within : (os : List Observer) (n : ℕ) → observers_test os n ≡ true → All (λ o. o.var < n) os
  observers_within [] n e = All-nil (λ (o : Observer). o.var < n)
  observers_within (o ∷ os) n e =
      All-cons (λ (o : Observer). o.var < n) o os (ltb-true o.var n (and_left (nat_lt o.var n) _ e)) (observers_within os n (and_right (nat_lt o.var n) _ e))

  pub splits : (observers : List Observer) (ms : List Mark) (g : Context) → (splits_test (λ i. among i observers) ms g && observers_test observers (length g)) ≡ true
      → Splits vars observers ms g
  splits observers ms g e =
      let s : splits_test (λ i. among i observers) ms g ≡ true = and_left _ _ e in record {
        long = as_long (λ i. among i observers) ms g s;
        fits = fits_each (λ i. among i observers) ms g s;
        observed = observers_within observers (length g) (and_right (splits_test (λ i. among i observers) ms g) _ e);
      }

  -- an entry is used or may be dropped
  abbrev pub drop_test : Bool → Option Tau → Bool
  drop_test used None = true
  drop_test used (Some t) = used || drops vars t

  abbrev pub drops_test : (ℕ → Bool) → Context → Bool
  drops_test used [] = true
  drops_test used (o ∷ g) = drop_test (used zero) o && drops_test (λ i. used (suc i)) g

  dropped : (used : Bool) (o : Option Tau) (t : Tau) → used ≡ false → o ≡ Some t → drop_test used o ≡ true → IsTrue (drops vars t)
  dropped used None t unused is e = absurd (cc)
  dropped true (Some u) t unused is e = absurd (cc)
  dropped false (Some u) t unused is e = let same : u ≡ t = cc in subst (λ v. IsTrue (drops vars v)) same e

  dropped_each : (used : ℕ → Bool) (g : Context) → drops_test used g ≡ true → (i : ℕ) (t : Tau) → used i ≡ false → look g i ≡ Some t → IsTrue (drops vars t)
  dropped_each used [] e i t unused is = absurd (cc)
  dropped_each used (o ∷ g) e zero t unused is = dropped (used zero) o t unused is (and_left (drop_test (used zero) o) _ e)
  dropped_each used (o ∷ g) e (suc i) t unused is = dropped_each (λ j. used (suc j)) g (and_right (drop_test (used zero) o) _ e) i t unused is

  pub all_drop : (g : Context) → drops_test (λ i. false) g ≡ true → Drops vars g
  all_drop g e i t is = dropped_each (λ j. false) g e i t refl is

  apart : (i used : ℕ) → i ≢ used → (b : Bool) → nat_eq i used ≡ b → nat_eq i used ≡ false
  apart i used ne true e = absurd (ne (eqb-true i used e))
  apart i used ne false e = e

  pub others_drop : (used : ℕ) (g : Context) → drops_test (λ i. nat_eq i used) g ≡ true → DropsBut vars used g
  others_drop used g e i t ne is = dropped_each (λ j. nat_eq j used) g e i t (apart i used ne (nat_eq i used) refl) is
