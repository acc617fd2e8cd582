-- Contexts with type arguments in the place of type variables: entries, splits, and what may be dropped.
use Rattle.std.proofs.Common.{◌≡◌, ℕ, zero, suc, ◌<◌, Bool, IsTrue, Option, Some, None, List, [], ◌∷◌, length, refl, sym, ap, ◌∙◌, subst as at}
use Rattle.std.specs.List.{All}
use Rattle.cg_base.specs.declared.kind.Kinds.{Kinds}
use Rattle.cg_base.specs.Types.{Tau}
use Rattle.cg_core.specs.declared.derivation.Mark.{Mark}
use Rattle.cg_core.specs.declared.derivation.Mark.TheVariants.{Gone, Left, Right, Both, Seen}
use Rattle.cg_core.specs.declared.term.Seen.{Seen as Observer}
use Rattle.cg_kinds.specs.Kinds.{subst}
use Rattle.cg_typing.specs.Contexts.{Context, look, mark_at, push, first_side, second_side, first, second, among, drops, Fits, Splits, Drops, DropsBut}
use Rattle.cg_typing_laws.specs.Laws.{AreInstance}
use Rattle.cg_typing.specs.Subst.{subst_direction, subst_context}
use Rattle.cg_typing_laws.proofs.Types.{subst_bang, kinds_kept}

module _ (given : List Tau) where
  pub look_subst : (g : Context) (i : ℕ) → look (subst_context given g) i ≡ subst_direction given (look g i)
  look_subst [] i = refl
  look_subst (o ∷ g) zero = refl
  look_subst (o ∷ g) (suc i) = look_subst g i

  length_subst : (g : Context) → length (subst_context given g) ≡ length g
  length_subst [] = refl
  length_subst (o ∷ g) = ap suc (length_subst g)

  first_side_subst : (m : Mark) (o : Option Tau) → first_side m (subst_direction given o) ≡ subst_direction given (first_side m o)
  first_side_subst Left o = refl
  first_side_subst Both o = refl
  first_side_subst Seen None = refl
  first_side_subst Seen (Some t) = ap Some (sym (subst_bang given t))
  first_side_subst Gone o = refl
  first_side_subst Right o = refl

  second_side_subst : (m : Mark) (o : Option Tau) → second_side m (subst_direction given o) ≡ subst_direction given (second_side m o)
  second_side_subst Left o = refl
  second_side_subst Both o = refl
  second_side_subst Seen o = refl
  second_side_subst Gone o = refl
  second_side_subst Right o = refl

  pub first_subst : (m : List Mark) (g : Context) → first m (subst_context given g) ≡ subst_context given (first m g)
  first_subst m [] = refl
  first_subst [] (o ∷ g) = refl
  first_subst (m ∷ ms) (o ∷ g) = let x = first_side_subst m o in let y = first_subst ms g in cc

  pub second_subst : (m : List Mark) (g : Context) → second m (subst_context given g) ≡ subst_context given (second m g)
  second_subst m [] = refl
  second_subst [] (o ∷ g) = refl
  second_subst (m ∷ ms) (o ∷ g) = let x = second_side_subst m o in let y = second_subst ms g in cc

  pub push_subst : (g : Context) (o : Option Tau) → push (subst_context given g) (subst_direction given o) ≡ subst_context given (push g o)
  push_subst [] o = refl
  push_subst (x ∷ g) o = ap (λ h. subst_direction given x ∷ h) (push_subst g o)

module _ (vars vars' : List Kinds) (given : List Tau) (instance' : AreInstance vars' given vars) where
  fits_kept : (observed : Bool) (m : Mark) (o : Option Tau) → Fits vars observed m o → Fits vars' observed m (subst_direction given o)
  fits_kept observed Gone None f = f
  fits_kept observed Left (Some t) f = f
  fits_kept observed Right (Some t) f = f
  fits_kept observed Both (Some t) f = ((kinds_kept vars vars' given instance' t).share f.0, f.1)
  fits_kept observed Seen (Some t) f = f
  fits_kept observed Gone (Some t) f = absurd f
  fits_kept observed Left None f = absurd f
  fits_kept observed Right None f = absurd f
  fits_kept observed Both None f = absurd f
  fits_kept observed Seen None f = absurd f

  pub splits_kept : (os : List Observer) (m : List Mark) (g : Context) → Splits vars os m g → Splits vars' os m (subst_context given g)
  splits_kept os m g s = record {
    long = s.long ∙ sym (length_subst given g);
    fits = λ i lt. at (λ o. Fits vars' (among i os) (mark_at m i) o) (sym (look_subst given g i))
        (fits_kept (among i os) (mark_at m i) (look g i) (s.fits i (at (λ n. i < n) (length_subst given g) lt)));
    observed = at (λ n. All (λ o. o.var < n) os) (sym (length_subst given g)) s.observed;
  }

  entry_drops : (o : Option Tau) (t : Tau) → ((u : Tau) → o ≡ Some u → IsTrue (drops vars u)) → subst_direction given o ≡ Some t → IsTrue (drops vars' t)
  entry_drops None t h e = absurd (cc)
  entry_drops (Some u) t h e = let q : subst given u ≡ t = cc in at (λ t. IsTrue (drops vars' t)) q ((kinds_kept vars vars' given instance' u).drop (h u refl))

  pub drops_kept : (g : Context) → Drops vars g → Drops vars' (subst_context given g)
  drops_kept g d i t e = entry_drops (look g i) t (d i) (sym (look_subst given g i) ∙ e)

  pub drops_but_kept : (j : ℕ) (g : Context) → DropsBut vars j g → DropsBut vars' j (subst_context given g)
  drops_but_kept j g d i t n e = entry_drops (look g i) t (λ u. d i u n) (sym (look_subst given g i) ∙ e)
