-- The test on types says exactly that they are equal.
use Rattle.std.proofs.Common.{◌≡◌, Bool, true, false, ◌&&◌, refl, ap, nat_eq, eqb-true, eq-eqb}
use Rattle.std.proofs.lemmas.Bool.{and_parts, and_from}
use Rattle.std.specs.Str.{bytes_eq}
use Rattle.cg_base.specs.declared.kind.Sigil.{Sigil}
use Rattle.cg_base.specs.declared.kind.Sigil.TheVariants.{R, W, U}
use Rattle.cg_base.specs.declared.kind.Word.{Word}
use Rattle.cg_base.specs.declared.kind.Word.TheVariants.{U8, U16, U32, U64}
use Rattle.cg_base.specs.Types.{Tau, var, seen, unit, word, bool, arrow, abs, variant, fields, Taus, none, more, Parts, end, part}
use Rattle.cg_base.specs.Words.{bits}
use Rattle.cg_base.specs.Same.{same_type, same_types, same_parts, same_sigil, same_mark}
use Rattle.cg_base.proofs.Sequences.{itself as name_same, is_name as name_is}
use Rattle.cg_base.proofs.Counts.{no_steps as never}

sigil_is : (s t : Sigil) → same_sigil s t ≡ true → s ≡ t
sigil_is R R h = refl
sigil_is W W h = refl
sigil_is U U h = refl
sigil_is _ _ h = never h

mark_is : (a b : Bool) → same_mark a b ≡ true → a ≡ b
mark_is true true h = refl
mark_is false false h = refl
mark_is _ _ h = never h

word_is : (v w : Word) → nat_eq (bits v) (bits w) ≡ true → v ≡ w
word_is U8 U8 h = refl
word_is U16 U16 h = refl
word_is U32 U32 h = refl
word_is U64 U64 h = refl
word_is _ _ h = never h

mutual
  unfolding same_type

  pub same_is : (t u : Tau) → same_type t u ≡ true → t ≡ u
  same_is (var n) (var m) h = ap var (eqb-true n m h)
  same_is (seen n) (seen m) h = ap seen (eqb-true n m h)
  same_is unit unit h = refl
  same_is (word v) (word w) h = ap word (word_is v w h)
  same_is bool bool h = refl
  same_is (arrow a b) (arrow c d) h = let p = and_parts (same_type a c) _ h in let q = same_is a c p.0 in let r = same_is b d p.1 in cc
  same_is (abs n ts s) (abs n' ts' s') h =
      let p = and_parts (bytes_eq n n') _ h in let q = and_parts (same_types ts ts') _ p.1 in
      let x = name_is n n' p.0 in let y = all_are ts ts' q.0 in let z = sigil_is s s' q.1 in cc
  same_is (variant ps) (variant qs) h = ap variant (parts_are ps qs h)
  same_is (fields ps s) (fields qs s') h = let p = and_parts (same_parts ps qs) _ h in let x = parts_are ps qs p.0 in let y = sigil_is s s' p.1 in cc
  same_is _ _ h = never h

  all_are : (ts us : Taus) → same_types ts us ≡ true → ts ≡ us
  all_are none none h = refl
  all_are (more t ts) (more u us) h = let p = and_parts (same_type t u) _ h in let x = same_is t u p.0 in let y = all_are ts us p.1 in cc
  all_are _ _ h = never h

  parts_are : (ps qs : Parts) → same_parts ps qs ≡ true → ps ≡ qs
  parts_are end end h = refl
  parts_are (part n t b ps) (part n' t' b' qs) h =
      let p = and_parts (bytes_eq n n' && same_mark b b') _ h in let q = and_parts (bytes_eq n n') _ p.0 in let r = and_parts (same_type t t') _ p.1 in
      let w = name_is n n' q.0 in let x = mark_is b b' q.1 in let y = same_is t t' r.0 in let z = parts_are ps qs r.1 in cc
  parts_are _ _ h = never h

sigil_same : (s : Sigil) → same_sigil s s ≡ true
sigil_same R = refl
sigil_same W = refl
sigil_same U = refl

mark_same : (b : Bool) → same_mark b b ≡ true
mark_same true = refl
mark_same false = refl

mutual
  unfolding same_type

  pub same_self : (t : Tau) → same_type t t ≡ true
  same_self (var n) = eq-eqb n n refl
  same_self (seen n) = eq-eqb n n refl
  same_self unit = refl
  same_self (word w) = eq-eqb (bits w) (bits w) refl
  same_self bool = refl
  same_self (arrow a b) = and_from (same_type a a) _ (same_self a) (same_self b)
  same_self (abs n ts s) = and_from (bytes_eq n n) _ (name_same n) (and_from (same_types ts ts) _ (all_same ts) (sigil_same s))
  same_self (variant ps) = parts_same ps
  same_self (fields ps s) = and_from (same_parts ps ps) _ (parts_same ps) (sigil_same s)

  all_same : (ts : Taus) → same_types ts ts ≡ true
  all_same none = refl
  all_same (more t ts) = and_from (same_type t t) _ (same_self t) (all_same ts)

  parts_same : (ps : Parts) → same_parts ps ps ≡ true
  parts_same end = refl
  parts_same (part n t b ps) =
      and_from (bytes_eq n n && same_mark b b) _ (and_from (bytes_eq n n) _ (name_same n) (mark_same b)) (and_from (same_type t t) _ (same_self t) (parts_same ps))
