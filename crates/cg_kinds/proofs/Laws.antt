-- The laws of bang and of kinds, each by induction over types.
use Rattle.std.proofs.Common.{◌≡◌, ℕ, ◌<◌, ◌≤◌, length, IsTrue, Bool, true, false, ◌&&◌, List, refl, ap, arith, rules, tests}
use Rattle.cg_base.specs.declared.kind.Kinds.{Kinds}
use Rattle.cg_base.specs.declared.kind.Sigil.{Sigil}
use Rattle.cg_base.specs.declared.kind.Sigil.TheVariants.{R, W, U}
use Rattle.cg_base.specs.Types.{Tau, var, seen, unit, word, bool, arrow, abs, variant, fields, Taus, none, more, Parts, end, part}
use Rattle.cg_kinds.specs.Kinds.{kinds, kinds_all, kinds_parts, both, sigil_kinds, at_least, bang, bang_all, bang_parts, bang_sigil, subst, subst_all, subst_parts, or_unit, or_none, seen_kinds, width, width_all, width_parts}
use Rattle.cg_kinds.specs.Laws.{AreKept, AreMet}
use Rattle.std.specs.Cmp.Derive.{both_true}
use Rattle.std.specs.Prelude.{slice_get}
use Rattle.std.proofs.lemmas.Option.{slice_get-get_or}

bang_sigil_twice : (s : Sigil) → bang_sigil (bang_sigil s) ≡ bang_sigil s
bang_sigil_twice R = refl
bang_sigil_twice W = refl
bang_sigil_twice U = refl

-- to observe twice is to observe once
mutual
  unfolding bang

  pub bang_twice : (t : Tau) → bang (bang t) ≡ bang t
  bang_twice (var n) = refl
  bang_twice (seen n) = refl
  bang_twice unit = refl
  bang_twice (word w) = refl
  bang_twice bool = refl
  bang_twice (arrow a b) = refl
  bang_twice (abs x ts s) = cc (bang_all_twice ts, bang_sigil_twice s)
  bang_twice (variant ps) = ap variant (bang_parts_twice ps)
  bang_twice (fields ps s) = cc (bang_parts_twice ps, bang_sigil_twice s)

  bang_all_twice : (ts : Taus) → bang_all (bang_all ts) ≡ bang_all ts
  bang_all_twice none = refl
  bang_all_twice (more t ts) = cc (bang_twice t, bang_all_twice ts)

  bang_parts_twice : (ps : Parts) → bang_parts (bang_parts ps) ≡ bang_parts ps
  bang_parts_twice end = refl
  bang_parts_twice (part x t taken ps) = cc (bang_twice t, bang_parts_twice ps)

-- what may be dropped and shared
abbrev IsFree : Kinds → Type 0
IsFree k = (k.drop ≡ true) × (k.share ≡ true)

free_both : (k l : Kinds) → IsFree k → IsFree l → IsFree (both k l)
unfolding both
free_both k l first second = (both_true first.0 second.0, both_true first.1 second.1)

free_sigil : (s : Sigil) → IsFree (sigil_kinds (bang_sigil s))
free_sigil R = (refl, refl)
free_sigil W = (refl, refl)
free_sigil U = (refl, refl)

free_at_least : (k : Kinds) (taken : Bool) → IsFree k → IsFree (at_least k taken)
free_at_least k true free = (refl, refl)
free_at_least k false free = free

-- what is observed may be dropped and shared
mutual
  unfolding bang kinds

  pub bang_free : (vs : List Kinds) (t : Tau) → IsFree (kinds vs (bang t))
  bang_free vs (var n) = (refl, refl)
  bang_free vs (seen n) = (refl, refl)
  bang_free vs unit = (refl, refl)
  bang_free vs (word w) = (refl, refl)
  bang_free vs bool = (refl, refl)
  bang_free vs (arrow a b) = (refl, refl)
  bang_free vs (abs x ts s) = free_both _ _ (free_sigil s) (bang_all_free vs ts)
  bang_free vs (variant ps) = bang_parts_free vs ps
  bang_free vs (fields ps s) = free_both _ _ (free_sigil s) (bang_parts_free vs ps)

  bang_all_free : (vs : List Kinds) (ts : Taus) → IsFree (kinds_all vs (bang_all ts))
  bang_all_free vs none = (refl, refl)
  bang_all_free vs (more t ts) = free_both _ _ (bang_free vs t) (bang_all_free vs ts)

  bang_parts_free : (vs : List Kinds) (ps : Parts) → IsFree (kinds_parts vs (bang_parts ps))
  bang_parts_free vs end = (refl, refl)
  bang_parts_free vs (part x t taken ps) = free_both _ _ (free_at_least _ taken (bang_free vs t)) (bang_parts_free vs ps)

-- each permission is kept, through each way in which kinds are made of others
same_kept : (k : Kinds) → AreKept k k
same_kept k = record { drop = λ granted. granted; share = λ granted. granted; escape = λ granted. granted }

and_kept : (a b c d : Bool) → (IsTrue c → IsTrue a) → (IsTrue d → IsTrue b) → IsTrue (c && d) → IsTrue (a && b)
and_kept a b c d first second granted = search (rules, tests)

both_kept : (k l m n : Kinds) → AreKept k m → AreKept l n → AreKept (both k l) (both m n)
unfolding both
both_kept k l m n first second = record {
  drop = and_kept k.drop l.drop m.drop n.drop first.drop second.drop;
  share = and_kept k.share l.share m.share n.share first.share second.share;
  escape = and_kept k.escape l.escape m.escape n.escape first.escape second.escape;
}

at_least_kept : (k l : Kinds) (taken : Bool) → AreKept k l → AreKept (at_least k taken) (at_least l taken)
at_least_kept k l true kept = same_kept _
at_least_kept k l false kept = kept

free_kept : (k : Kinds) → IsFree k → AreKept k seen_kinds
free_kept k free = record { drop = λ _. free.0; share = λ _. free.1; escape = λ granted. absurd cc }

-- with arguments that have the kinds of their variables, a type keeps its kinds
module _ (vs : List Kinds) (args : List Tau) (wants : List Kinds) (same : length args ≡ length wants) (met : AreMet vs args wants) where
  var_kept : (n : ℕ) → n < length args → AreKept (kinds vs (or_unit (slice_get args n))) (or_none (slice_get wants n))
  var_kept n below =
      let argument = slice_get-get_or args n unit below in
      let wanted = slice_get-get_or wants n seen_kinds (omega arith) in
      rw (argument, wanted) (met n unit seen_kinds (omega arith))

  mutual
    unfolding kinds subst width

    pub kept : (t : Tau) → width t ≤ length args → AreKept (kinds vs (subst args t)) (kinds wants t)
    kept (var n) below = var_kept n (omega arith)
    kept (seen n) below = free_kept _ (bang_free vs (or_unit (slice_get args n)))
    kept unit below = same_kept _
    kept (word w) below = same_kept _
    kept bool below = same_kept _
    kept (arrow a b) below = same_kept _
    kept (abs x ts s) below = both_kept _ _ _ _ (same_kept _) (all_kept ts below)
    kept (variant ps) below = parts_kept ps below
    kept (fields ps s) below = both_kept _ _ _ _ (same_kept _) (parts_kept ps below)

    all_kept : (ts : Taus) → width_all ts ≤ length args → AreKept (kinds_all vs (subst_all args ts)) (kinds_all wants ts)
    all_kept none below = same_kept _
    all_kept (more t ts) below = both_kept _ _ _ _ (kept t (omega arith)) (all_kept ts (omega arith))

    parts_kept : (ps : Parts) → width_parts ps ≤ length args → AreKept (kinds_parts vs (subst_parts args ps)) (kinds_parts wants ps)
    parts_kept end below = same_kept _
    parts_kept (part x t taken ps) below =
        both_kept _ _ _ _ (at_least_kept _ _ taken (kept t (omega arith))) (parts_kept ps (omega arith))
