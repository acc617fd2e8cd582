-- Observers that are noted one after another are those that each variable has.
use Rattle.std.proofs.Common.{◌≡◌, ℕ, zero, suc, ◌<◌, ◌≤◌, ◌+◌, Bool, true, false, cond, Option, Some, None, List, [], ◌∷◌, length, drop, get_or, refl, sym, ap, ◌∙◌, arith, nat_eq}
use Rattle.std.specs.Prelude.{slice_set, replicate}
use Rattle.std.proofs.lemmas.List.{at_drop_more, at_drop_all}
use Rattle.cg_base.specs.declared.place.Place.{Place}
use Rattle.cg_core.specs.declared.term.Seen.{Seen}
use Rattle.cg_check_uses.proofs.Numbers.{next_numbers}
use Rattle.cg_check_uses.specs.Noted.{over, noted}
use Rattle.cg_check_uses.specs.Uses.{first_of, seen_at, seen_places, table}
use Rattle.cg_base.proofs.Counts.{is_other as other_number}

first_none : (p : Option Place) → first_of p None ≡ p
first_none None = refl
first_none (Some p) = refl

first_three : (a b c : Option Place) → first_of (first_of a b) c ≡ first_of a (first_of b c)
first_three None b c = refl
first_three (Some a) b c = refl

over_same : (ps : List (Option Place)) (f g : ℕ → Option Place) → ((i : ℕ) → f i ≡ g i) → over ps f ≡ over ps g
over_same [] f g h = refl
over_same (p ∷ ps) f g h = cc (h 0, over_same ps (λ i. f (suc i)) (λ i. g (suc i)) (λ i. h (suc i)))

over_none : (ps : List (Option Place)) → over ps (λ i. None) ≡ ps
over_none [] = refl
over_none (p ∷ ps) = cc (first_none p, over_none ps)

over_both : (ps : List (Option Place)) (f g : ℕ → Option Place) → over (over ps f) g ≡ over ps (λ i. first_of (f i) (g i))
over_both [] f g = refl
over_both (p ∷ ps) f g = cc (first_three p (f 0) (g 0), over_both ps (λ i. f (suc i)) (λ i. g (suc i)))

over_table : (n : ℕ) (f : ℕ → Option Place) → over (replicate n None) f ≡ table n f
over_table zero f = refl
over_table (suc n) f = ap (λ ps. f 0 ∷ ps) (over_table n (λ i. f (suc i)))

-- one observer of one variable
abbrev one : ℕ → Place → ℕ → Option Place
one v p i = cond (nat_eq i v) (Some p) None

one_later : (v : ℕ) (p : Place) (i : ℕ) → one (suc v) p (suc i) ≡ one v p i
one_later v p i = ap (λ b. cond b (Some p) None) (sym (next_numbers i v))

one_first : (p : Place) (i : ℕ) → one 0 p (suc i) ≡ None
one_first p i = ap (λ b. cond b (Some p) None) (other_number (suc i) 0 (λ e. absurd (omega (arith, e))))

none_at_first : (v : ℕ) (p : Place) → one (suc v) p 0 ≡ None
none_at_first v p = ap (λ b. cond b (Some p) None) (other_number 0 (suc v) (λ e. absurd (omega (arith, e))))

pub put_one : (ps : List (Option Place)) (v : ℕ) (p d : Option Place) (q : Place) → v < length ps → p ≡ get_or ps v d → slice_set ps v (first_of p (Some q)) ≡ over ps (one v q)
put_one [] v p d q h e = absurd (omega (arith, h))
put_one (x ∷ ps) zero p d q h e =
    cc (ap (λ p. first_of p (Some q)) e, sym (over_same ps (λ i. one 0 q (suc i)) (λ i. None) (one_first q) ∙ over_none ps))
put_one (x ∷ ps) (suc v) p d q h e =
    cc (
      sym (ap (λ z. first_of x z) (none_at_first v q) ∙ first_none x),
      put_one ps v p d q (omega (arith, h)) e ∙ sym (over_same ps (λ i. one (suc v) q (suc i)) (one v q) (one_later v q)),
    )

pub put_past : (ps : List (Option Place)) (v : ℕ) (q : Place) → length ps ≤ v → ps ≡ over ps (one v q)
put_past [] v q h = refl
put_past (x ∷ ps) zero q h = absurd (omega (arith, h))
put_past (x ∷ ps) (suc v) q h =
    cc (
      sym (ap (λ z. first_of x z) (none_at_first v q) ∙ first_none x),
      put_past ps v q (omega (arith, h)) ∙ sym (over_same ps (λ i. one (suc v) q (suc i)) (one v q) (one_later v q)),
    )

-- what is left of the observers
seen_more : (i : ℕ) (o : Seen) (os : List Seen) → first_of (one o.var o.place i) (seen_at i os) ≡ seen_at i (o ∷ os)
seen_more i o os = go (nat_eq i o.var)
  where
    go : (b : Bool) → first_of (cond b (Some o.place) None) (seen_at i os) ≡ cond b (Some o.place) (seen_at i os)
    go true = refl
    go false = refl

pub noted_more : (seen : List (Option Place)) (os : List Seen) (k : ℕ) (d : Seen) → k < length os
    → over (noted seen (get_or os k d)) (λ i. seen_at i (drop (k + 1) os)) ≡ over seen (λ i. seen_at i (drop k os))
noted_more seen os k d h =
    over_both seen (one (get_or os k d).var (get_or os k d).place) (λ i. seen_at i (drop (k + 1) os))
    ∙ over_same seen (λ i. first_of (one (get_or os k d).var (get_or os k d).place i) (seen_at i (drop (k + 1) os))) (λ i. seen_at i (drop k os))
    (λ i. seen_more i (get_or os k d) (drop (k + 1) os) ∙ sym (at_drop_more (λ l. seen_at i l) os k d h))

pub noted_all : (seen : List (Option Place)) (os : List Seen) (k : ℕ) → length os ≤ k → over seen (λ i. seen_at i (drop k os)) ≡ seen
noted_all seen os k h = over_same seen (λ i. seen_at i (drop k os)) (λ i. None) (λ i. at_drop_all (λ l. seen_at i l) os k h) ∙ over_none seen

pub noted_none : (n : ℕ) (os : List Seen) → over (replicate n None) (λ i. seen_at i os) ≡ seen_places n os
noted_none n os = over_table n (λ i. seen_at i os)
