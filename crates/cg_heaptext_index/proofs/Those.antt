-- Places of which something holds, and others.
use Rattle.std.proofs.Common.{◌≡◌, ℕ, zero, suc, ◌⊎◌, inl, inr, List, [], ◌∷◌, ◌++◌, sym, ap, subst}
use Rattle.std.specs.Prelude.{slice_get, Some}
use Rattle.cg_base.proofs.Options.{some_is}
use Rattle.cg_base.proofs.Sequences.{get_front}
use Rattle.cg_base.specs.declared.place.Place.{Place}
use Rattle.cg_heaptext_places.specs.Noted.{AreThose}

-- what holds of the same places
pub those_same : (P Q : Place → Type 0) (ps : List Place) → ((p : Place) → P p → Q p) → ((p : Place) → Q p → P p) → AreThose P ps → AreThose Q ps
those_same P Q ps to from those = record { hold = λ i p e. to p (those.hold i p e); all = λ p q. those.all p (from p q) }

-- ---- one or the other

-- an item of one list or of another behind it
either_list : {A : Type 0} (xs ys : List A) (i : ℕ) (z : A) → slice_get (xs ++ ys) i ≡ Some z → (slice_get xs i ≡ Some z) ⊎ ((j : ℕ) × (slice_get ys j ≡ Some z))
either_list [] ys i z s = inr (i, s)
either_list (x ∷ xs) ys zero z s = inl s
either_list (x ∷ xs) ys (suc i) z s = either_list xs ys i z s

second_list : {A : Type 0} (xs ys : List A) (j : ℕ) (z : A) → slice_get ys j ≡ Some z → (i : ℕ) × (slice_get (xs ++ ys) i ≡ Some z)
second_list [] ys j z s = (j, s)
second_list (x ∷ xs) ys j z s = let r = second_list xs ys j z s in (suc r.0, r.1)

pub those_both : (P Q : Place → Type 0) (ps qs : List Place) → AreThose P ps → AreThose Q qs → AreThose (λ p. P p ⊎ Q p) (ps ++ qs)
those_both P Q ps qs a b = record { hold = λ i p s. holds p i (either_list ps qs i p s); all = at }
  where
    holds : (p : Place) (i : ℕ) → (slice_get ps i ≡ Some p) ⊎ ((j : ℕ) × (slice_get qs j ≡ Some p)) → P p ⊎ Q p
    holds p i (inl s) = inl (a.hold i p s)
    holds p i (inr (j, s)) = inr (b.hold j p s)

    at : (p : Place) → P p ⊎ Q p → (i : ℕ) × (slice_get (ps ++ qs) i ≡ Some p)
    at p (inl h) = let r = a.all p h in (r.0, get_front ps qs r.0 p r.1)
    at p (inr h) = let r = b.all p h in second_list ps qs r.0 p r.1

-- one place
those_one : (new : Place) → AreThose (λ p. p ≡ new) (new ∷ [])
those_one new = record { hold = holds; all = λ p e. (zero, ap Some (sym e)) }
  where
    holds : (i : ℕ) (p : Place) → slice_get (new ∷ []) i ≡ Some p → p ≡ new
    holds zero p s = sym (some_is new p s)
    holds (suc i) p s = absurd (cc)

-- what holds of the same places and of one more
pub those_more : (P Q : Place → Type 0) (ps : List Place) (new : Place) → ((p : Place) → P p → Q p) → Q new → ((p : Place) → Q p → P p ⊎ (p ≡ new)) → AreThose P ps → AreThose Q (ps ++ new ∷ [])
those_more P Q ps new to here from those = those_same (λ p. P p ⊎ (p ≡ new)) Q (ps ++ new ∷ []) either from (those_both P (λ p. p ≡ new) ps (new ∷ []) those (those_one new))
  where
    either : (p : Place) → P p ⊎ (p ≡ new) → Q p
    either p (inl h) = to p h
    either p (inr e) = subst Q (sym e) here
