-- What may escape reads nothing, and what may be dropped or shared writes nothing.
use Rattle.std.proofs.Common.{◌≡◌, ℕ, zero, suc, Bool, true, false, List, take, drop, ◌⊎◌, ⊎_elim, refl}
use Rattle.std.proofs.lemmas.Bool.{and_parts}
use Rattle.cg_base.specs.declared.kind.Kinds.{Kinds}
use Rattle.cg_base.specs.declared.kind.Sigil.{Sigil}
use Rattle.cg_base.specs.declared.kind.Sigil.TheVariants.{R, W, U}
use Rattle.cg_base.specs.Types.{Tau, var, seen, unit, word, bool, arrow, abs, variant, fields, Parts, end, part}
use Rattle.cg_heap.specs.declared.cell.Scalar.{Scalar}
use Rattle.cg_heap.specs.Reps.{Heap, slots, inner, first_number, first_address, tail, counted, foot, foot_all, foot_at}
use Rattle.cg_kinds.specs.Kinds.{kinds, kinds_all, kinds_parts, sigil_kinds, both, at_least}

-- kinds that ask something of both parts, and of a sigil that it isn't one of this footprint: then the footprint is empty
module _ (h : Heap) (vars : List Kinds) (asks : Kinds → Bool) (joined : (a b : Kinds) → asks (both a b) ≡ true → (asks a ≡ true) × (asks b ≡ true))
    (m : Sigil) (shut : (s : Sigil) → asks (sigil_kinds s) ≡ true → (a q : ℕ) → counted m s a q ≡ 0) where
  mutual
    unfolding kinds foot

    no_foot : (t : Tau) (us : List Scalar) (q : ℕ) → asks (kinds vars t) ≡ true → foot h m t us q ≡ 0
    no_foot (var n) us q k = refl
    no_foot (seen n) us q k = refl
    no_foot unit us q k = refl
    no_foot (word w) us q k = refl
    no_foot bool us q k = refl
    no_foot (arrow a b) us q k = refl
    no_foot (abs name args s) us q k = shut s (joined (sigil_kinds s) (kinds_all vars args) k).0 (first_address us) q
    no_foot (variant ps) us q k = no_foot_at ps (first_number us) (tail us) q k
    no_foot (fields ps s) us q k =
        let j = joined (sigil_kinds s) (kinds_parts vars ps) k in
        rw (shut s j.0 (first_address us) q, no_foot_all ps (inner h s us) q j.1)

    no_foot_all : (ps : Parts) (us : List Scalar) (q : ℕ) → asks (kinds_parts vars ps) ≡ true → foot_all h m ps us q ≡ 0
    no_foot_all end us q k = refl
    no_foot_all (part name t true ps) us q k = no_foot_all ps (drop (slots t) us) q (joined (at_least (kinds vars t) true) (kinds_parts vars ps) k).1
    no_foot_all (part name t false ps) us q k =
        let j = joined (kinds vars t) (kinds_parts vars ps) k in
        rw (no_foot t (take (slots t) us) q j.0, no_foot_all ps (drop (slots t) us) q j.1)

    no_foot_at : (ps : Parts) (i : ℕ) (us : List Scalar) (q : ℕ) → asks (kinds_parts vars ps) ≡ true → foot_at h m ps i us q ≡ 0
    no_foot_at end i us q k = refl
    no_foot_at (part name t true ps) zero us q k = refl
    no_foot_at (part name t false ps) zero us q k = no_foot t (take (slots t) us) q (joined (kinds vars t) (kinds_parts vars ps) k).0
    no_foot_at (part name t taken ps) (suc i) us q k = no_foot_at ps i (drop (slots t) us) q (joined (at_least (kinds vars t) taken) (kinds_parts vars ps) k).1

module _ (h : Heap) (vars : List Kinds) where
  -- what may escape reads nothing
  pub no_reads : (t : Tau) (us : List Scalar) (q : ℕ) → (kinds vars t).escape ≡ true → foot h R t us q ≡ 0
  unfolding both
  no_reads = no_foot h vars (λ k. k.escape) joined R shut
    where
      joined : (a b : Kinds) → (both a b).escape ≡ true → (a.escape ≡ true) × (b.escape ≡ true)
      joined a b e = and_parts a.escape b.escape e

      shut : (s : Sigil) → (sigil_kinds s).escape ≡ true → (a q : ℕ) → counted R s a q ≡ 0
      shut U k a q = refl
      shut R k a q = absurd (cc)
      shut W k a q = refl

  no_writes_dropped : (t : Tau) (us : List Scalar) (q : ℕ) → (kinds vars t).drop ≡ true → foot h W t us q ≡ 0
  unfolding both
  no_writes_dropped = no_foot h vars (λ k. k.drop) joined W shut
    where
      joined : (a b : Kinds) → (both a b).drop ≡ true → (a.drop ≡ true) × (b.drop ≡ true)
      joined a b e = and_parts a.drop b.drop e

      shut : (s : Sigil) → (sigil_kinds s).drop ≡ true → (a q : ℕ) → counted W s a q ≡ 0
      shut U k a q = refl
      shut R k a q = refl
      shut W k a q = absurd (cc)

  no_writes_shared : (t : Tau) (us : List Scalar) (q : ℕ) → (kinds vars t).share ≡ true → foot h W t us q ≡ 0
  unfolding both
  no_writes_shared = no_foot h vars (λ k. k.share) joined W shut
    where
      joined : (a b : Kinds) → (both a b).share ≡ true → (a.share ≡ true) × (b.share ≡ true)
      joined a b e = and_parts a.share b.share e

      shut : (s : Sigil) → (sigil_kinds s).share ≡ true → (a q : ℕ) → counted W s a q ≡ 0
      shut U k a q = refl
      shut R k a q = refl
      shut W k a q = absurd (cc)

  -- what may be dropped or shared writes nothing
  pub no_writes : (t : Tau) (us : List Scalar) (q : ℕ) → ((kinds vars t).drop ≡ true) ⊎ ((kinds vars t).share ≡ true) → foot h W t us q ≡ 0
  no_writes t us q k = ⊎_elim (no_writes_dropped t us q) (no_writes_shared t us q) k
