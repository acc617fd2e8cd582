-- The test on types says that they are equal.
use Rattle.std.proofs.Common.{◌≡◌, ℕ, Bool, true, false, ◌&&◌, List, [], ◌∷◌, refl, sym, ap, nat_eq, eqb-true, eq-eqb}
use Rattle.cg_base.specs.declared.kind.Sigil.{Sigil}
use Rattle.cg_base.specs.declared.kind.Sigil.TheVariants.{R, W, U}
use Rattle.cg_base.specs.Types.{Tau, var, seen, unit, word, bool, arrow, abs, variant, fields, Taus, none, more, Parts, end, part}
use Rattle.cg_base.proofs.WordLaws.{word_is, word_same}
use Rattle.cg_faults.specs.Same.{same, same_all, same_parts, same_name, same_sigil, same_bool}
use Rattle.cg_base.proofs.Truths.{both as and_both}

pub name_is : (xs ys : List ℕ) → same_name xs ys ≡ true → xs ≡ ys
name_is [] [] h = refl
name_is (x ∷ xs) (y ∷ ys) h = let p = and_both (nat_eq x y) _ h in let q = eqb-true x y p.0 in let r = name_is xs ys p.1 in cc
name_is _ _ h = absurd (cc)

sigil_is : (s t : Sigil) → same_sigil s t ≡ true → s ≡ t
sigil_is R R h = refl
sigil_is W W h = refl
sigil_is U U h = refl
sigil_is _ _ h = absurd (cc)

bool_is : (a b : Bool) → same_bool a b ≡ true → a ≡ b
bool_is true b e = sym e
bool_is false true e = absurd (cc)
bool_is false false e = refl

mutual
  unfolding same

  pub same_is : (t u : Tau) → same t u ≡ true → t ≡ u
  same_is (var n) (var m) h = ap var (eqb-true n m h)
  same_is (seen n) (seen m) h = ap seen (eqb-true n m h)
  same_is unit unit h = refl
  same_is (word v) (word w) h = ap word (word_is v w h)
  same_is bool bool h = refl
  same_is (arrow a b) (arrow c d) h = let p = and_both (same a c) _ h in let q = same_is a c p.0 in let r = same_is b d p.1 in cc
  same_is (abs n ts s) (abs n' ts' s') h =
      let p = and_both (same_name n n') _ h in let q = and_both (same_all ts ts') _ p.1 in
      let x = name_is n n' p.0 in let y = all_is ts ts' q.0 in let z = sigil_is s s' q.1 in cc
  same_is (variant ps) (variant qs) h = ap variant (parts_is ps qs h)
  same_is (fields ps s) (fields qs s') h = let p = and_both (same_parts ps qs) _ h in let x = parts_is ps qs p.0 in let y = sigil_is s s' p.1 in cc
  same_is _ _ h = absurd (cc)

  all_is : (ts us : Taus) → same_all ts us ≡ true → ts ≡ us
  all_is none none h = refl
  all_is (more t ts) (more u us) h = let p = and_both (same t u) _ h in let x = same_is t u p.0 in let y = all_is ts us p.1 in cc
  all_is _ _ h = absurd (cc)

  parts_is : (ps qs : Parts) → same_parts ps qs ≡ true → ps ≡ qs
  parts_is end end h = refl
  parts_is (part n t b ps) (part n' t' b' qs) h =
      let p = and_both (same_name n n') _ h in let q = and_both (same t t') _ p.1 in let r = and_both (same_bool b b') _ q.1 in
      let w = name_is n n' p.0 in let x = same_is t t' q.0 in let y = bool_is b b' r.0 in let z = parts_is ps qs r.1 in cc
  parts_is _ _ h = absurd (cc)

pub and_refl : (a b : Bool) → a ≡ true → b ≡ true → (a && b) ≡ true
and_refl true b h k = k
and_refl false b h k = h

pub name_refl : (xs : List ℕ) → same_name xs xs ≡ true
name_refl [] = refl
name_refl (x ∷ xs) = and_refl (nat_eq x x) _ (eq-eqb x x refl) (name_refl xs)

sigil_refl : (s : Sigil) → same_sigil s s ≡ true
sigil_refl R = refl
sigil_refl W = refl
sigil_refl U = refl

bool_refl : (b : Bool) → same_bool b b ≡ true
bool_refl true = refl
bool_refl false = refl

mutual
  unfolding same

  pub same_refl : (t : Tau) → same t t ≡ true
  same_refl (var n) = eq-eqb n n refl
  same_refl (seen n) = eq-eqb n n refl
  same_refl unit = refl
  same_refl (word w) = word_same w
  same_refl bool = refl
  same_refl (arrow a b) = and_refl (same a a) _ (same_refl a) (same_refl b)
  same_refl (abs n ts s) = and_refl (same_name n n) _ (name_refl n) (and_refl (same_all ts ts) _ (all_refl ts) (sigil_refl s))
  same_refl (variant ps) = parts_refl ps
  same_refl (fields ps s) = and_refl (same_parts ps ps) _ (parts_refl ps) (sigil_refl s)

  all_refl : (ts : Taus) → same_all ts ts ≡ true
  all_refl none = refl
  all_refl (more t ts) = and_refl (same t t) _ (same_refl t) (all_refl ts)

  parts_refl : (ps : Parts) → same_parts ps ps ≡ true
  parts_refl end = refl
  parts_refl (part n t b ps) =
      and_refl (same_name n n) _ (name_refl n) (and_refl (same t t) _ (same_refl t) (and_refl (same_bool b b) _ (bool_refl b) (parts_refl ps)))
