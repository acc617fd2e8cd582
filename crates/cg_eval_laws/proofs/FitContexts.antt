-- Values that fit a context, with type arguments in the place of type variables: through its two sides, and with one more.
use Rattle.std.proofs.Common.{◌≡◌, ℕ, zero, suc, ◌<◌, IsTrue, Option, Some, None, List, [], ◌∷◌, ◌++◌, length, get_or, ⊎_elim, refl, sym, ap, ◌∙◌, arith, subst as at}
use Rattle.std.proofs.Math.ListN.{get_or-append}
use Rattle.std.proofs.Math.Seq.{get_or-append_seam}
use Rattle.cg_base.specs.Types.{Tau}
use Rattle.cg_base.specs.declared.kind.Kinds.{Kinds}
use Rattle.cg_core.specs.declared.derivation.Mark.{Mark}
use Rattle.cg_core.specs.declared.derivation.Mark.TheVariants.{Gone, Left, Right, Both, Seen}
use Rattle.cg_core.specs.declared.term.Seen.{Seen as Observer}
use Rattle.cg_kinds.specs.Kinds.{bang, subst}
use Rattle.cg_typing.specs.Contexts.{Context as Entries, look, mark_at, push, first_side, second_side, first, second, Splits}
use Rattle.cg_value.specs.Fits.{World, fits}
use Rattle.cg_value.specs.Values.{Val, gone}
use Rattle.cg_check_laws.proofs.Basics.{look_first, look_second, length_push, look_old, look_new, look_within, below_suc}
use Rattle.cg_typing_laws.proofs.Types.{subst_bang}
use Rattle.cg_eval_laws.proofs.FitObserved.{fits_observed}
use Rattle.cg_typing.proofs.Lists.{first_as_many as length_first, second_as_many as length_second}

module _ (world : World) (given : List Tau) where
  -- as many values as entries, of which each fits where its entry is present
  pub record FitContext (g : Entries) (vs : List Val) : Type 0 where
    pub long : length vs ≡ length g
    pub each : (i : ℕ) (t : Tau) → look g i ≡ Some t → IsTrue (fits world (subst given t) (get_or vs i gone))

  -- what a mark leaves of an entry
  at_first : (m : Mark) (o : Option Tau) (t : Tau) (v : Val) → ((u : Tau) → o ≡ Some u → IsTrue (fits world (subst given u) v)) → first_side m o ≡ Some t → IsTrue (fits world (subst given t) v)
  at_first Left o t v h e = h t e
  at_first Both o t v h e = h t e
  at_first Seen None t v h e = absurd (cc)
  at_first Seen (Some u) t v h e =
      let q : bang u ≡ t = cc in
      at (λ t. IsTrue (fits world (subst given t) v)) q (ap (λ t. fits world t v) (subst_bang given u) ∙ fits_observed world (subst given u) v ∙ h u refl)
  at_first Gone o t v h e = absurd (cc)
  at_first Right o t v h e = absurd (cc)

  at_second : (m : Mark) (o : Option Tau) (t : Tau) (v : Val) → ((u : Tau) → o ≡ Some u → IsTrue (fits world (subst given u) v)) → second_side m o ≡ Some t → IsTrue (fits world (subst given t) v)
  at_second Right o t v h e = h t e
  at_second Both o t v h e = h t e
  at_second Seen o t v h e = h t e
  at_second Gone o t v h e = absurd (cc)
  at_second Left o t v h e = absurd (cc)

  -- the two sides
  pub first_fits : (vars : List Kinds) (os : List Observer) (m : List Mark) (g : Entries) (vs : List Val) → Splits vars os m g → FitContext g vs → FitContext (first m g) vs
  first_fits vars os m g vs s f = record {
    long = f.long ∙ sym (length_first m g s.long);
    each = λ i t e. at_first (mark_at m i) (look g i) t (get_or vs i gone) (f.each i) (sym (look_first m g i) ∙ e);
  }

  pub second_fits : (vars : List Kinds) (os : List Observer) (m : List Mark) (g : Entries) (vs : List Val) → Splits vars os m g → FitContext g vs → FitContext (second m g) vs
  second_fits vars os m g vs s f = record {
    long = f.long ∙ sym (length_second m g s.long);
    each = λ i t e. at_second (mark_at m i) (look g i) t (get_or vs i gone) (f.each i) (sym (look_second m g i) ∙ e);
  }

  length_more : (vs : List Val) (v : Val) → length (vs ++ v ∷ []) ≡ suc (length vs)
  length_more [] v = refl
  length_more (w ∷ vs) v = ap suc (length_more vs v)

  -- one more entry, and one more value
  pub pushed_fits : (g : Entries) (vs : List Val) (t : Tau) (v : Val) → FitContext g vs → IsTrue (fits world (subst given t) v) → FitContext (push g (Some t)) (vs ++ v ∷ [])
  pushed_fits g vs t v f h = record {
    long = length_more vs v ∙ ap suc f.long ∙ sym (length_push g (Some t));
    each = λ i u e. ⊎_elim
        (λ lt. let same : get_or (vs ++ v ∷ []) i gone ≡ get_or vs i gone = get_or-append vs (v ∷ []) gone i (omega (arith, f.long)) in
        at (λ w. IsTrue (fits world (subst given u) w)) (sym same) (f.each i u (sym (look_old g (Some t) i lt) ∙ e)))
        (λ is. let same : get_or (vs ++ v ∷ []) i gone ≡ v = ap (λ i. get_or (vs ++ v ∷ []) i gone) (is ∙ sym f.long) ∙ get_or-append_seam vs v [] gone in
        let here : Some t ≡ Some u = sym (look_new g (Some t) i is) ∙ e in let q : t ≡ u = cc in
        at (λ w. IsTrue (fits world (subst given u) w)) (sym same) (at (λ u. IsTrue (fits world (subst given u) v)) q h))
        (below_suc i (length g) (at (λ n. i < n) (length_push g (Some t)) (look_within (push g (Some t)) i u e)));
  }

  -- an argument alone
  pub only_fits : (t : Tau) (v : Val) → IsTrue (fits world (subst given t) v) → FitContext (Some t ∷ []) (v ∷ [])
  only_fits t v h = record { long = refl; each = each_of }
    where
      each_of : (i : ℕ) (u : Tau) → look (Some t ∷ []) i ≡ Some u → IsTrue (fits world (subst given u) (get_or (v ∷ []) i gone))
      each_of zero u e = let q : t ≡ u = cc in at (λ u. IsTrue (fits world (subst given u) v)) q h
      each_of (suc i) u e = absurd (cc)
