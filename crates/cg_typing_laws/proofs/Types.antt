-- Type arguments in the place of type variables: twice, observed, and what tests of types and kinds they keep.
use Rattle.std.proofs.Common.{◌≡◌, ℕ, zero, suc, Bool, true, false, ◌&&◌, ◌||◌, not, IsTrue, Option, Some, None, List, [], ◌∷◌, map, codes, refl, sym, ap, ◌∙◌, rules, tests}
use Rattle.std.specs.Prelude.{slice_get}
use Rattle.std.specs.Option.{option_map}
use Rattle.std.specs.Str.{bytes_eq}
use Rattle.cg_base.specs.declared.kind.Kinds.{Kinds}
use Rattle.cg_base.specs.Types.{Tau, var, seen, unit, word, bool, arrow, abs, variant, fields, Taus, none, more, Parts, end, part}
use Rattle.cg_kinds.specs.Kinds.{kinds, kinds_all, kinds_parts, both, at_least, bang, bang_all, bang_parts, bang_sigil, subst, subst_all, subst_parts, or_unit, or_none, is_word}
use Rattle.cg_kinds.specs.Laws.{AreKept}
use Rattle.cg_kinds.proofs.Laws.{bang_twice, bang_free}
use Rattle.cg_typing.specs.Parts.{has_word_arrays, have_word_arrays, parts_have_word_arrays, are_words}
use Rattle.cg_typing_laws.specs.Laws.{AreInstance, BangIsSubstituted, SubstitutionsCompose}
use Rattle.cg_base.proofs.Truths.{both as and_both}

-- a type is observed before or after its variables are replaced
mutual
  unfolding bang subst

  pub subst_bang : BangIsSubstituted
  subst_bang given (var n) = refl
  subst_bang given (seen n) = sym (bang_twice (or_unit (slice_get given n)))
  subst_bang given unit = refl
  subst_bang given (word w) = refl
  subst_bang given bool = refl
  subst_bang given (arrow a b) = refl
  subst_bang given (abs name ts sigil) = ap (λ us. abs name us (bang_sigil sigil)) (subst_bang_all given ts)
  subst_bang given (variant ps) = ap variant (subst_bang_parts given ps)
  subst_bang given (fields ps sigil) = ap (λ qs. fields qs (bang_sigil sigil)) (subst_bang_parts given ps)

  subst_bang_all : (given : List Tau) (ts : Taus) → subst_all given (bang_all ts) ≡ bang_all (subst_all given ts)
  subst_bang_all given none = refl
  subst_bang_all given (more t ts) = let x = subst_bang given t in let y = subst_bang_all given ts in cc

  subst_bang_parts : (given : List Tau) (ps : Parts) → subst_parts given (bang_parts ps) ≡ bang_parts (subst_parts given ps)
  subst_bang_parts given end = refl
  subst_bang_parts given (part name t taken ps) = let x = subst_bang given t in let y = subst_bang_parts given ps in cc

-- a variable's argument, with variables of its own replaced
subst_or_unit : (outer : List Tau) (o : Option Tau) → subst outer (or_unit o) ≡ or_unit (option_map (subst outer) o)
unfolding subst
subst_or_unit outer None = refl
subst_or_unit outer (Some t) = refl

at_map : (outer inner : List Tau) (n : ℕ) → slice_get (map (subst outer) inner) n ≡ option_map (subst outer) (slice_get inner n)
at_map outer [] n = refl
at_map outer (t ∷ inner) zero = refl
at_map outer (t ∷ inner) (suc n) = at_map outer inner n

subst_argument : (outer inner : List Tau) (n : ℕ) → subst outer (or_unit (slice_get inner n)) ≡ or_unit (slice_get (map (subst outer) inner) n)
subst_argument outer inner n = subst_or_unit outer (slice_get inner n) ∙ ap or_unit (sym (at_map outer inner n))

mutual
  unfolding subst

  pub subst_twice : SubstitutionsCompose
  subst_twice outer inner (var n) = subst_argument outer inner n
  subst_twice outer inner (seen n) = subst_bang outer (or_unit (slice_get inner n)) ∙ ap bang (subst_argument outer inner n)
  subst_twice outer inner unit = refl
  subst_twice outer inner (word w) = refl
  subst_twice outer inner bool = refl
  subst_twice outer inner (arrow a b) = let x = subst_twice outer inner a in let y = subst_twice outer inner b in cc
  subst_twice outer inner (abs name ts sigil) = ap (λ us. abs name us sigil) (subst_all_twice outer inner ts)
  subst_twice outer inner (variant ps) = ap variant (subst_parts_twice outer inner ps)
  subst_twice outer inner (fields ps sigil) = ap (λ qs. fields qs sigil) (subst_parts_twice outer inner ps)

  subst_all_twice : (outer inner : List Tau) (ts : Taus) → subst_all outer (subst_all inner ts) ≡ subst_all (map (subst outer) inner) ts
  subst_all_twice outer inner none = refl
  subst_all_twice outer inner (more t ts) = let x = subst_twice outer inner t in let y = subst_all_twice outer inner ts in cc

  subst_parts_twice : (outer inner : List Tau) (ps : Parts) → subst_parts outer (subst_parts inner ps) ≡ subst_parts (map (subst outer) inner) ps
  subst_parts_twice outer inner end = refl
  subst_parts_twice outer inner (part name t taken ps) = let x = subst_twice outer inner t in let y = subst_parts_twice outer inner ps in cc

-- tests, each true where it was
pub and_kept : (a b c d : Bool) → (IsTrue a → IsTrue c) → (IsTrue b → IsTrue d) → IsTrue (a && b) → IsTrue (c && d)
and_kept a b c d f g h = let p = and_both a b h in search (rules, tests, f p.0, g p.1)

pub or_kept : (a b c d : Bool) → (IsTrue a → IsTrue c) → (IsTrue b → IsTrue d) → IsTrue (a || b) → IsTrue (c || d)
or_kept true b true d f g h = refl
or_kept true b false d f g h = absurd (let z = f refl in cc)
or_kept false b true d f g h = refl
or_kept false b false d f g h = g h

pub word_kept : (given : List Tau) (t : Tau) → IsTrue (is_word t) → IsTrue (is_word (subst given t))
unfolding subst
word_kept given (word w) h = refl
word_kept given _ h = absurd (cc)

words_kept : (given : List Tau) (ts : Taus) → IsTrue (are_words ts) → IsTrue (are_words (subst_all given ts))
unfolding subst
words_kept given none h = refl
words_kept given (more t ts) h = and_kept (is_word t) (are_words ts) _ _ (word_kept given t) (words_kept given ts) h

-- an observed type is written with arrays of words alone where the type is
observed_words : (ts : Taus) → IsTrue (are_words ts) → IsTrue (are_words (bang_all ts))
unfolding bang
observed_words none h = refl
observed_words (more (word w) ts) h = observed_words ts h
observed_words (more _ ts) h = absurd (cc)

mutual
  unfolding bang

  pub observed_arrays : (t : Tau) → IsTrue (has_word_arrays t) → IsTrue (has_word_arrays (bang t))
  observed_arrays (var n) h = refl
  observed_arrays (seen n) h = refl
  observed_arrays unit h = refl
  observed_arrays (word w) h = refl
  observed_arrays bool h = refl
  observed_arrays (arrow a b) h = h
  observed_arrays (abs name ts sigil) h =
      and_kept (not (bytes_eq name (codes "WordArray")) || are_words ts) (have_word_arrays ts) _ _ (or_kept (not (bytes_eq name (codes "WordArray"))) _ _ _ (λ x. x) (observed_words ts)) (observed_all ts) h
  observed_arrays (variant ps) h = observed_parts ps h
  observed_arrays (fields ps sigil) h = observed_parts ps h

  observed_all : (ts : Taus) → IsTrue (have_word_arrays ts) → IsTrue (have_word_arrays (bang_all ts))
  observed_all none h = refl
  observed_all (more t ts) h = and_kept (has_word_arrays t) (have_word_arrays ts) _ _ (observed_arrays t) (observed_all ts) h

  observed_parts : (ps : Parts) → IsTrue (parts_have_word_arrays ps) → IsTrue (parts_have_word_arrays (bang_parts ps))
  observed_parts end h = refl
  observed_parts (part name t taken ps) h = and_kept (has_word_arrays t) (parts_have_word_arrays ps) _ _ (observed_arrays t) (observed_parts ps) h

-- kinds that are kept
same_kept : (k : Kinds) → AreKept k k
same_kept k = record { drop = λ h. h; share = λ h. h; escape = λ h. h }

both_kept : (k l m n : Kinds) → AreKept k m → AreKept l n → AreKept (both k l) (both m n)
unfolding both
both_kept k l m n first second = record {
  drop = and_kept m.drop n.drop k.drop l.drop first.drop second.drop;
  share = and_kept m.share n.share k.share l.share first.share second.share;
  escape = and_kept m.escape n.escape k.escape l.escape first.escape second.escape;
}

at_least_kept : (k l : Kinds) (taken : Bool) → AreKept k l → AreKept (at_least k taken) (at_least l taken)
at_least_kept k l true kept = same_kept _
at_least_kept k l false kept = kept

module _ (vars vars' : List Kinds) (given : List Tau) (instance' : AreInstance vars' given vars) where
  argument_arrays : (n : ℕ) → IsTrue (has_word_arrays (or_unit (slice_get given n)))
  argument_arrays n = go (slice_get given n) refl
    where
      go : (o : Option Tau) → slice_get given n ≡ o → IsTrue (has_word_arrays (or_unit o))
      go None e = refl
      go (Some t) e = instance'.arrays n t e

  mutual
    unfolding subst

    -- a type is written with arrays of words alone where it was
    pub arrays_kept : (t : Tau) → IsTrue (has_word_arrays t) → IsTrue (has_word_arrays (subst given t))
    arrays_kept (var n) h = argument_arrays n
    arrays_kept (seen n) h = observed_arrays (or_unit (slice_get given n)) (argument_arrays n)
    arrays_kept unit h = refl
    arrays_kept (word w) h = refl
    arrays_kept bool h = refl
    arrays_kept (arrow a b) h = and_kept (has_word_arrays a) (has_word_arrays b) _ _ (arrays_kept a) (arrays_kept b) h
    arrays_kept (abs name ts sigil) h =
        and_kept (not (bytes_eq name (codes "WordArray")) || are_words ts) (have_word_arrays ts) _ _ (or_kept (not (bytes_eq name (codes "WordArray"))) _ _ _ (λ x. x) (words_kept given ts)) (all_arrays_kept ts) h
    arrays_kept (variant ps) h = part_arrays_kept ps h
    arrays_kept (fields ps sigil) h = part_arrays_kept ps h

    all_arrays_kept : (ts : Taus) → IsTrue (have_word_arrays ts) → IsTrue (have_word_arrays (subst_all given ts))
    all_arrays_kept none h = refl
    all_arrays_kept (more t ts) h = and_kept (has_word_arrays t) (have_word_arrays ts) _ _ (arrays_kept t) (all_arrays_kept ts) h

    part_arrays_kept : (ps : Parts) → IsTrue (parts_have_word_arrays ps) → IsTrue (parts_have_word_arrays (subst_parts given ps))
    part_arrays_kept end h = refl
    part_arrays_kept (part name t taken ps) h = and_kept (has_word_arrays t) (parts_have_word_arrays ps) _ _ (arrays_kept t) (part_arrays_kept ps) h

  -- a variable's argument has its kinds: unit where there is no argument
  argument_kept : (n : ℕ) → AreKept (kinds vars' (or_unit (slice_get given n))) (or_none (slice_get vars n))
  unfolding kinds
  argument_kept n = go (slice_get given n) (slice_get vars n) refl refl
    where
      go : (o : Option Tau) (p : Option Kinds) → slice_get given n ≡ o → slice_get vars n ≡ p → AreKept (kinds vars' (or_unit o)) (or_none p)
      go None p e f = record { drop = λ h. refl; share = λ h. refl; escape = λ h. refl }
      go (Some t) None e f = record { drop = λ h. absurd (cc); share = λ h. absurd (cc); escape = λ h. absurd (cc) }
      go (Some t) (Some k) e f = instance'.kinds_met n t k e f

  mutual
    unfolding kinds subst

    -- a type keeps its kinds
    pub kinds_kept : (t : Tau) → AreKept (kinds vars' (subst given t)) (kinds vars t)
    kinds_kept (var n) = argument_kept n
    kinds_kept (seen n) = let f = bang_free vars' (or_unit (slice_get given n)) in record { drop = λ h. f.0; share = λ h. f.1; escape = λ h. absurd (cc) }
    kinds_kept unit = same_kept _
    kinds_kept (word w) = same_kept _
    kinds_kept bool = same_kept _
    kinds_kept (arrow a b) = same_kept _
    kinds_kept (abs name ts sigil) = both_kept _ _ _ _ (same_kept _) (all_kinds_kept ts)
    kinds_kept (variant ps) = part_kinds_kept ps
    kinds_kept (fields ps sigil) = both_kept _ _ _ _ (same_kept _) (part_kinds_kept ps)

    all_kinds_kept : (ts : Taus) → AreKept (kinds_all vars' (subst_all given ts)) (kinds_all vars ts)
    all_kinds_kept none = same_kept _
    all_kinds_kept (more t ts) = both_kept _ _ _ _ (kinds_kept t) (all_kinds_kept ts)

    part_kinds_kept : (ps : Parts) → AreKept (kinds_parts vars' (subst_parts given ps)) (kinds_parts vars ps)
    part_kinds_kept end = same_kept _
    part_kinds_kept (part name t taken ps) = both_kept _ _ _ _ (at_least_kept _ _ taken (kinds_kept t)) (part_kinds_kept ps)
