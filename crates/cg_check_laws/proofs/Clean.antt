-- Contexts of derivations beside plain ones: they have the same types, and what a split leaves has too; and no touch of a
-- part clashes with what came before it.
use Rattle.std.proofs.Common.{◌≡◌, ℕ, zero, suc, ◌<◌, ◌≤◌, Bool, true, false, ◌&&◌, not, cond, Option, Some, None, List, [], ◌∷◌, length, ⊎_elim, refl, sym, ap, ◌∙◌, subst, arith}
use Rattle.cg_base.specs.declared.kind.Kinds.{Kinds}
use Rattle.cg_base.specs.declared.place.Place.{Place}
use Rattle.cg_base.specs.Types.{Tau, unit}
use Rattle.cg_core.specs.declared.derivation.Mark.{Mark}
use Rattle.cg_core.specs.declared.derivation.Mark.TheVariants.{Gone, Left, Right, Both, Seen}
use Rattle.cg_core.specs.declared.term.Seen.{Seen as Observer}
use Rattle.cg_core.specs.Terms.{Tree}
use Rattle.cg_kinds.specs.Kinds.{bang}
use Rattle.cg_typing.specs.Contexts.{Context, look, mark_at, push, first_side, second_side, first, second, among, drops, shares, Fits, Splits}
use Rattle.cg_faults.specs.Events.{Before, after_seen, upto}
use Rattle.cg_faults.specs.Occurrences.{touched, used}
use Rattle.cg_faults.specs.Plain.{plain_at, banged_where, observed}
use Rattle.cg_check_laws.proofs.Basics.{lt_test_is, below_suc, look_first, look_second, length_push, look_old, look_new, at_old, at_new, at_banged, length_banged}
use Rattle.cg_check_laws.proofs.Held.{Held, HeldIn}
use Rattle.cg_check_uses.proofs.Numbers.{apart}
use Rattle.cg_base.proofs.Truths.{either as or_elim}
use Rattle.cg_typing.proofs.Lists.{first_as_many as length_first, second_as_many as length_second}

-- the type of an entry that is present
abbrev pub Of : Option Tau → Tau → Type 0
Of None t = Unit {0}
Of (Some u) t = u ≡ t

-- the context has the plain context's types, where it has any
pub record Within (g : Context) (p : List Tau) : Type 0 where
  pub long : length g ≡ length p
  pub at : (i : ℕ) → i < length p → Of (look g i) (plain_at p i)

pub observed_none : (p : List Tau) → banged_where (λ i. false) p ≡ p
observed_none [] = refl
observed_none (t ∷ p) = ap (λ q. t ∷ q) (observed_none p)

pub within_push : (g : Context) (p : List Tau) (t : Tau) → Within g p → Within (push g (Some t)) (push p t)
within_push g p t w = let l = w.long in record {
  long = length_push g (Some t) ∙ ap suc w.long ∙ sym (length_push p t);
  at = λ i lt. ⊎_elim
      (λ k. let k' : i < length g = omega arith in
      subst (λ o. Of o (plain_at (push p t) i)) (sym (look_old g (Some t) i k')) (subst (λ u. Of (look g i) u) (sym (at_old p t i k)) (w.at i k)))
      (λ k. let k' : i ≡ length g = omega arith in
      subst (λ o. Of o (plain_at (push p t) i)) (sym (look_new g (Some t) i k')) (sym (at_new p t i k)))
      (below_suc i (length p) (subst (λ n. i < n) (length_push p t) lt));
}

pub past_end : (p : List Tau) (i : ℕ) → length p ≤ i → plain_at p i ≡ unit
past_end [] i h = refl
past_end (t ∷ p) zero h = absurd (omega arith)
past_end (t ∷ p) (suc i) h = past_end p i (omega arith)

module _ (vars : List Kinds) where
  -- touched on both sides without being observed: it may be shared
  both_shared : (s a b ua ub : Bool) (m : Mark) (o : Option Tau) (t : Tau) → Fits vars s m o → s ≡ false → Held vars a ua (first_side m o) → Held vars b ub (second_side m o)
      → a ≡ true → b ≡ true → Of o t → shares vars t ≡ true
  both_shared s a b ua ub Both (Some u) t f n x y h k e = subst (λ t. shares vars t ≡ true) e f.0
  both_shared s a b ua ub Gone None t f n x y h k e = apart a h x
  both_shared s a b ua ub Left (Some u) t f n x y h k e = apart b k y
  both_shared s a b ua ub Right (Some u) t f n x y h k e = apart a h x
  both_shared s a b ua ub Seen (Some u) t f n x y h k e = apart s f n
  both_shared s a b ua ub Gone (Some u) t f n x y h k e = absurd f
  both_shared s a b ua ub Left None t f n x y h k e = absurd f
  both_shared s a b ua ub Right None t f n x y h k e = absurd f
  both_shared s a b ua ub Both None t f n x y h k e = absurd f
  both_shared s a b ua ub Seen None t f n x y h k e = absurd f

  -- observed, and not used on the second side: it may be dropped
  pub seen_drops : (s b ub : Bool) (m : Mark) (o : Option Tau) (t : Tau) → Fits vars s m o → s ≡ true → Held vars b ub (second_side m o) → Of o t → ub ≡ false → drops vars t ≡ true
  seen_drops s b ub Seen (Some u) t f n y e h = subst (λ t. drops vars t ≡ true) e (y h)
  seen_drops s b ub Gone None t f n y e h = apart s n f
  seen_drops s b ub Left (Some u) t f n y e h = apart s n f
  seen_drops s b ub Right (Some u) t f n y e h = apart s n f
  seen_drops s b ub Both (Some u) t f n y e h = apart s n f.1
  seen_drops s b ub Gone (Some u) t f n y e h = absurd f
  seen_drops s b ub Left None t f n y e h = absurd f
  seen_drops s b ub Right None t f n y e h = absurd f
  seen_drops s b ub Both None t f n y e h = absurd f
  seen_drops s b ub Seen None t f n y e h = absurd f

  of_split : (s : Bool) (m : Mark) (o : Option Tau) (t : Tau) → Fits vars s m o → Of o t → Of (first_side m o) (cond s (bang t) t) × Of (second_side m o) t
  of_split s Gone None t f e = (tt, tt)
  of_split s Left (Some u) t f e = (e ∙ ap (λ s. cond s (bang t) t) (sym f), tt)
  of_split s Right (Some u) t f e = (tt, e)
  of_split s Both (Some u) t f e = (e ∙ ap (λ s. cond s (bang t) t) (sym f.1), e)
  of_split s Seen (Some u) t f e = (ap bang e ∙ ap (λ s. cond s (bang t) t) (sym f), e)
  of_split s Gone (Some u) t f e = absurd f
  of_split s Left None t f e = absurd f
  of_split s Right None t f e = absurd f
  of_split s Both None t f e = absurd f
  of_split s Seen None t f e = absurd f

  pub within_split : (os : List Observer) (m : List Mark) (g : Context) (p : List Tau) → Splits vars os m g → Within g p → Within (first m g) (observed os p) × Within (second m g) p
  within_split os m g p s w =
      let s1 : ℕ → Bool = λ i. among i os in
      let lb = length_banged s1 p in let l1 = length_first m g s.long in let l2 = length_second m g s.long in let l = w.long in
      let both : (i : ℕ) → i < length p → Of (first_side (mark_at m i) (look g i)) (cond (s1 i) (bang (plain_at p i)) (plain_at p i)) × Of (second_side (mark_at m i) (look g i)) (plain_at p i) =
      λ i lt. of_split (s1 i) (mark_at m i) (look g i) (plain_at p i) (s.fits i (omega arith)) (w.at i lt) in (
        record {
          long = l1 ∙ l ∙ sym lb;
          at = λ i lt. subst (λ o. Of o (plain_at (observed os p) i)) (sym (look_first m g i))
              (subst (λ t. Of (first_side (mark_at m i) (look g i)) t) (sym (at_banged s1 p i)) (both i (omega arith)).0);
        },
        record { long = l2 ∙ l; at = λ i lt. subst (λ o. Of o (plain_at p i)) (sym (look_second m g i)) (both i lt).1 },
      )

  pub within_first : (m : List Mark) (g : Context) (p : List Tau) → Splits vars [] m g → Within g p → Within (first m g) p
  within_first m g p s w = subst (λ q. Within (first m g) q) (observed_none p) (within_split [] m g p s w).0

  pub within_second : (m : List Mark) (g : Context) (p : List Tau) → Splits vars [] m g → Within g p → Within (second m g) p
  within_second m g p s w = (within_split [] m g p s w).1

  -- no touch of these variables clashes with what came before
  abbrev pub CleanOf : List Tau → Before → (ℕ → Bool) → Type 0
  CleanOf p b t = (i : ℕ) → i < length p → t i ≡ true → b i ≡ true → shares vars (plain_at p i) ≡ true

  abbrev pub Clean : List Tau → Before → Tree Place → Type 0
  Clean p b e = CleanOf p b (λ i. touched i e)

  -- the second of two parts
  pub clean_second : (os : List Observer) (m : List Mark) (g : Context) (p : List Tau) (b : Before) (e : Tree Place) (t u : ℕ → Bool) → Splits vars os m g → Within g p → CleanOf p b t
      → HeldIn vars (first m g) e → ((i : ℕ) → i < length (second m g) → Held vars (t i) (u i) (look (second m g) i)) → CleanOf p (after_seen os b e) t
  clean_second os m g p b e t u s w c x y i lt k h =
      let l = w.long in let l1 = length_first m g s.long in let l2 = length_second m g s.long in
      or_elim (b i) _ h (λ q. c i lt k q)
      (λ q. let r = both (among i os) (touched i e) q in
      both_shared (among i os) (touched i e) (t i) (used i e) (u i) (mark_at m i) (look g i) (plain_at p i) (s.fits i (omega arith)) r.0
      (subst (λ o. Held vars (touched i e) (used i e) o) (look_first m g i) (x i (omega arith)))
      (subst (λ o. Held vars (t i) (u i) o) (look_second m g i) (y i (omega arith))) r.1 k (w.at i lt))
    where
      both : (a b : Bool) → (not a && b) ≡ true → (a ≡ false) × (b ≡ true)
      both true b h = absurd (cc)
      both false b h = (refl, h)

  pub clean_body : (p : List Tau) (t : Tau) (b : Before) (k : Tree Place) → Clean p b k → Clean (push p t) (upto (length p) b) k
  clean_body p t b k c i lt n h =
      let q = lt_test_is i (length p) (b i) h in
      subst (λ t. shares vars t ≡ true) (sym (at_old p t i q.0)) (c i q.0 n q.1)

  pub clean_body2 : (p : List Tau) (t u : Tau) (b : Before) (k : Tree Place) → Clean p b k → Clean (push (push p t) u) (upto (length p) b) k
  clean_body2 p t u b k c i lt n h =
      let q = lt_test_is i (length p) (b i) h in
      let l1 : i < length (push p t) = (let z = q.0 in omega (arith, length_push p t)) in
      subst (λ t. shares vars t ≡ true) (sym (at_old (push p t) u i l1 ∙ at_old p t i q.0)) (c i q.0 n q.1)
