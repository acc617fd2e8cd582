-- Where no cell is aliased, what is written is reached once.
use Rattle.std.proofs.Common.{◌≡◌, ℕ, zero, suc, ◌+◌, ◌≤◌, true, false, nat_eq, List, [], ◌∷◌, ◌++◌, Some, refl, ap, arith, eqb-true}
use Rattle.std.specs.Prelude.{◌||◌}
use Rattle.cg_base.proofs.Truths.{or_left, or_true}
use Rattle.cg_base.specs.declared.kind.Sigil.{Sigil}
use Rattle.cg_base.specs.declared.kind.Sigil.TheVariants.{R, W, U}
use Rattle.cg_base.specs.declared.place.Place.{Place}
use Rattle.cg_base.specs.Types.{Tau, abs, fields}
use Rattle.cg_heap.specs.Reps as reps
use Rattle.cg_heap.specs.Reps.{AreApart, one_if}
use Rattle.cg_heaptext_def.specs.Footprints.{reached, sigil_of}
use Rattle.cg_heaptext_def.specs.HeapText.{IsAliased, Nowhere, is_written}
use Rattle.cg_heaptext_def.specs.Reading.{Event, misfit, counted, mention}

-- ---- what isn't mentioned isn't reached

one_none : (p q : ℕ) → (p ≡ q → ⊥) → one_if (nat_eq p q) ≡ 0
one_none p q other = elim (nat_eq p q) as (λ b. nat_eq p q ≡ b → one_if b ≡ 0) [ true ↦ λ e. absurd (other (eqb-true p q e)) | false ↦ λ e. refl ] refl

counted_none : (m s : Sigil) (p q : ℕ) → (s ≡ m → p ≡ q → ⊥) → reps.counted m s p q ≡ 0
counted_none R R p q other = one_none p q (other refl)
counted_none W W p q other = one_none p q (other refl)
counted_none m s p q other = refl

-- what is mentioned nowhere at a type of a sigil isn't reached at it
unreached : (m : Sigil) (q : ℕ) (es : List Event)
    → ((front rest : List Event) (p : Place) (t : Tau) → es ≡ front ++ mention p q t ∷ rest → sigil_of t ≡ m → ⊥) → reached m es q ≡ 0
unreached m q [] never = refl
unreached m q (misfit p ∷ es) never = unreached m q es (λ front rest r t e. never (misfit p ∷ front) rest r t (ap (λ es. misfit p ∷ es) e))
unreached m q (counted n bound ∷ es) never = unreached m q es (λ front rest r t e. never (counted n bound ∷ front) rest r t (ap (λ es. counted n bound ∷ es) e))
unreached m q (mention p r t ∷ es) never =
    let here = counted_none m (sigil_of t) r q (λ s e. never [] es p t (ap (λ r. mention p r t ∷ es) e) s) in
    let there = unreached m q es (λ front rest o u e. never (mention p r t ∷ front) rest o u (ap (λ es. mention p r t ∷ es) e)) in
    omega (arith, here, there)

-- ---- at the first mention of a cell

written_at : (t : Tau) → sigil_of t ≡ W → is_written t ≡ true
written_at (abs name ts W) e = refl
written_at (abs name ts R) e = absurd (cc)
written_at (abs name ts U) e = absurd (cc)
written_at (fields ps W) e = refl
written_at (fields ps R) e = absurd (cc)
written_at (fields ps U) e = absurd (cc)
written_at t e = absurd (cc)

-- behind the first event none is aliased either
aliased_later : (first e : Event) (front : List Event) (place : Place) → IsAliased front e place → IsAliased (first ∷ front) e place
aliased_later first (misfit p) front place a = absurd a
aliased_later first (counted n bound) front place a = absurd a
aliased_later first (mention p q t) front place a = (a.0, record { i = suc a.1.i; place = a.1.place; ty = a.1.ty; there = a.1.there; holds = a.1.holds })

nowhere_later : (first : Event) (es : List Event) → Nowhere IsAliased (first ∷ es) → Nowhere IsAliased es
nowhere_later first es never front rest e place parts a = never (first ∷ front) rest e place (ap (λ es. first ∷ es) parts) (aliased_later first e front place a)

module _ (p : Place) (r : ℕ) (t : Tau) (es : List Event) (never : Nowhere IsAliased (mention p r t ∷ es)) where
  -- no later mention of the same cell, of which one of both writes
  none_behind : (q : ℕ) → r ≡ q → (front rest : List Event) (o : Place) (u : Tau) → es ≡ front ++ mention o q u ∷ rest → (is_written t || is_written u) ≡ true → ⊥
  none_behind q e front rest o u parts writes =
      never (mention p r t ∷ front) rest (mention o q u) o (ap (λ es. mention p r t ∷ es) parts)
      (refl, record { i = zero; place = p; ty = t; there = ap (λ r. Some (mention p r t)) e; holds = writes })

  -- a cell that is written here isn't reached behind; and one that is read here isn't written behind
  behind_written : (q : ℕ) → r ≡ q → sigil_of t ≡ W → (m : Sigil) → reached m es q ≡ 0
  behind_written q e w m = unreached m q es (λ front rest o u parts s. none_behind q e front rest o u parts (or_left (is_written t) (is_written u) (written_at t w)))

  behind_read : (q : ℕ) → r ≡ q → reached W es q ≡ 0
  behind_read q e = unreached W q es (λ front rest o u parts s. none_behind q e front rest o u parts (or_true (is_written t) (is_written u) (written_at u s)))

  -- so the cell is apart, if it is behind
  here_apart : AreApart (reached W es) (reached R es) → AreApart (reached W (mention p r t ∷ es)) (reached R (mention p r t ∷ es))
  here_apart tail q =
      elim (sigil_of t) as (λ s. sigil_of t ≡ s → 1 ≤ reps.counted W s r q + reached W es q
      → (reps.counted W s r q + reached W es q) + (reps.counted R s r q + reached R es q) ≤ 1) [
        | R ↦ λ s. elim (nat_eq r q) as (λ b. nat_eq r q ≡ b → 1 ≤ 0 + reached W es q → (0 + reached W es q) + (one_if b + reached R es q) ≤ 1) [
          | true ↦ λ e k. let none = behind_read q (eqb-true r q e) in absurd (omega arith)
          | false ↦ λ e k. let rest = tail q (omega arith) in omega arith
        ] refl
        | W ↦ λ s. elim (nat_eq r q) as (λ b. nat_eq r q ≡ b → 1 ≤ one_if b + reached W es q → (one_if b + reached W es q) + (0 + reached R es q) ≤ 1) [
          | true ↦ λ e k. let writes = behind_written q (eqb-true r q e) s W in let reads = behind_written q (eqb-true r q e) s R in omega arith
          | false ↦ λ e k. let rest = tail q (omega arith) in omega arith
        ] refl
        | U ↦ λ s k. let rest = tail q (omega arith) in omega arith
      ] refl

pub apart : (es : List Event) → Nowhere IsAliased es → AreApart (reached W es) (reached R es)
apart [] never = λ q k. absurd (omega arith)
apart (misfit p ∷ es) never = apart es (nowhere_later (misfit p) es never)
apart (counted n bound ∷ es) never = apart es (nowhere_later (counted n bound) es never)
apart (mention p r t ∷ es) never = here_apart p r t es never (apart es (nowhere_later (mention p r t) es never))
