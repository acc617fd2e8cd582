-- What a split leaves of an entry on each side.
use Rattle.std.proofs.Common.{◌≡◌, ◌⊎◌, inl, inr, ℕ, zero, suc, Bool, true, false, Some, None, List, [], ◌∷◌, length, refl, subst, arith}
use Rattle.cg_base.specs.declared.kind.Kinds.{Kinds}
use Rattle.cg_base.specs.Types.{Tau}
use Rattle.cg_core.specs.declared.derivation.Mark.{Mark}
use Rattle.cg_core.specs.declared.derivation.Mark.TheVariants.{Gone, Left, Right, Both, Seen}
use Rattle.cg_typing.specs.Contexts.{Context, look, mark_at, first_side, second_side, first, second, among, Fits, shares}
use Rattle.cg_typing.specs.Laws.{SplitsLoseNothing, LinearGoesOneWay}

first_at : (m : List Mark) (g : Context) (i : ℕ) → length m ≡ length g → look (first m g) i ≡ first_side (mark_at m i) (look g i)
first_at [] [] i e = refl
first_at (m ∷ ms) [] i e = absurd (omega arith)
first_at [] (x ∷ g) i e = absurd (omega arith)
first_at (m ∷ ms) (x ∷ g) zero e = refl
first_at (m ∷ ms) (x ∷ g) (suc i) e = first_at ms g i (omega arith)

second_at : (m : List Mark) (g : Context) (i : ℕ) → length m ≡ length g → look (second m g) i ≡ second_side (mark_at m i) (look g i)
second_at [] [] i e = refl
second_at (m ∷ ms) [] i e = absurd (omega arith)
second_at [] (x ∷ g) i e = absurd (omega arith)
second_at (m ∷ ms) (x ∷ g) zero e = refl
second_at (m ∷ ms) (x ∷ g) (suc i) e = second_at ms g i (omega arith)

-- one entry
kept : (vars : List Kinds) (observed : Bool) (m : Mark) (t : Tau) → Fits vars observed m (Some t) → (first_side m (Some t) ≡ Some t) ⊎ (second_side m (Some t) ≡ Some t)
kept vars observed Gone t f = absurd f
kept vars observed Left t f = inl refl
kept vars observed Right t f = inr refl
kept vars observed Both t f = inl refl
kept vars observed Seen t f = inr refl

one_way : (vars : List Kinds) (m : Mark) (t : Tau) → Fits vars false m (Some t) → shares vars t ≡ false → (first_side m (Some t) ≡ None) ⊎ (second_side m (Some t) ≡ None)
one_way vars Gone t f n = absurd f
one_way vars Left t f n = inr refl
one_way vars Right t f n = inl refl
one_way vars Both t f n = let s : shares vars t ≡ true = f.0 in absurd (cc)
one_way vars Seen t f n = absurd (cc)

pub lose_nothing : SplitsLoseNothing
lose_nothing vars observers marks g s i t below present =
    let f = subst (Fits vars (among i observers) (mark_at marks i)) present (s.fits i below) in
    rw (first_at marks g i s.long, second_at marks g i s.long, present) (kept vars (among i observers) (mark_at marks i) t f)

pub goes_one_way : LinearGoesOneWay
goes_one_way vars marks g s i t below present unshared =
    let f = subst (Fits vars false (mark_at marks i)) present (s.fits i below) in
    rw (first_at marks g i s.long, second_at marks g i s.long, present) (one_way vars (mark_at marks i) t f unshared)
