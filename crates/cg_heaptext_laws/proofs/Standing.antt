-- Scalars that represent a value, as many as the type has slots, which reach what was mentioned: for a type, for fields, and for an alternative.
use Rattle.std.proofs.Common.{◌≡◌, ℕ, zero, suc, ◌+◌, ◌≤◌, Bool, true, false, ◌&&◌, not, List, [], ◌∷◌, ◌++◌, length, take, drop, replicate, Option, if◌then◌else◌, refl, sym, ap, ◌∙◌, subst, arith}
use Rattle.std.proofs.lemmas.List.{length-append, length-replicate}
use Rattle.std.proofs.Math.Seq.{drop-append_seam, take-append_seam}
use Rattle.std.specs.Str.{bytes_eq}
use Rattle.cg_base.proofs.Sequences.{is_name}
use Rattle.cg_base.specs.declared.kind.Sigil.{Sigil}
use Rattle.cg_base.specs.declared.kind.Sigil.TheVariants.{R, W, U}
use Rattle.cg_base.specs.declared.place.Place.{Place}
use Rattle.cg_base.specs.Types.{Tau, unit, variant, fields, Parts, part}
use Rattle.cg_heap.specs.declared.cell.Scalar.{Scalar}
use Rattle.cg_heap.specs.declared.cell.Scalar.TheVariants.{Unset, Word}
use Rattle.cg_heap.specs.Reps as reps
use Rattle.cg_heap.specs.Reps.{Heap, HeapWorld, Holds, HoldsAll, HoldsAt, slots, slots_of_parts, foot, foot_all, foot_at, first_address}
use Rattle.cg_value.specs.Printed.{is_unit}
use Rattle.cg_value.specs.Values as values
use Rattle.cg_value.specs.Values.{Val, Vals}
use Rattle.cg_heaptext_def.specs.Footprints.{reached}
use Rattle.cg_heaptext_def.specs.Reading.{Event, misfit, skipped}
use Rattle.cg_heaptext_def.specs.Trees.{Cell}
use Rattle.cg_heaptext_laws.proofs.Fine.{AreFine, reached_both}

-- ---- some scalars before others

module _ (n : ℕ) (us ws : List Scalar) (full : length us ≡ n) where
  first_ones : take n (us ++ ws) ≡ us
  first_ones = subst (λ n. take n (us ++ ws) ≡ us) full (take-append_seam us ws)

  last_ones : drop n (us ++ ws) ≡ ws
  last_ones = subst (λ n. drop n (us ++ ws) ≡ ws) full (drop-append_seam us ws)

  enough : n ≤ length (us ++ ws)
  enough = omega (arith, length-append us ws)

all_unset : (n : ℕ) → length (replicate n Unset) ≡ n
all_unset n = length-replicate n Unset

-- what isn't boxed isn't counted
counted_unboxed : (m : Sigil) (p q : ℕ) → reps.counted m U p q ≡ 0
counted_unboxed R p q = refl
counted_unboxed W p q = refl
counted_unboxed U p q = refl

module _ (world : HeapWorld) (cells : ℕ → Option Cell) (heap : Heap) where
  pub record Stands (t : Tau) (us : List Scalar) (v : Val) (es : List Event) : Type 0 where
    pub holds : Holds world heap t us v
    pub full : length us ≡ slots t
    pub reaches : (m : Sigil) (q : ℕ) → foot heap m t us q ≡ reached m es q

  pub record StandAll (ps : Parts) (us : List Scalar) (vs : Vals) (es : List Event) : Type 0 where
    pub holds : HoldsAll world heap ps us vs
    pub full : length us ≡ slots_of_parts ps
    pub reaches : (m : Sigil) (q : ℕ) → foot_all heap m ps us q ≡ reached m es q

  -- an alternative, of which this many stand before the first of these
  pub record Chosen (ps : Parts) (before : ℕ) (us : List Scalar) (x : List ℕ) (v : Val) (es : List Event) : Type 0 where
    pub place : ℕ
    pub number : ℕ
    pub rest : List Scalar
    pub are : us ≡ Word number ∷ rest
    pub counts : number ≡ place + before
    pub holds : HoldsAt world heap ps place rest x v
    pub full : length rest ≡ slots_of_parts ps
    pub reaches : (m : Sigil) (q : ℕ) → foot_at heap m ps place rest q ≡ reached m es q

  -- ---- fields

  -- one that is there, before others
  pub present : (x : List ℕ) (t : Tau) (ps : Parts) (us ws : List Scalar) (v : Val) (vs : Vals) (es fs : List Event)
      → Stands t us v es → StandAll ps ws vs fs → StandAll (part x t false ps) (us ++ ws) (values.more v vs) (es ++ fs)
  unfolding Holds foot slots
  present x t ps us ws v vs es fs s r =
      let a = first_ones (slots t) us ws s.full in let b = last_ones (slots t) us ws s.full in
      record {
        holds = (enough (slots t) us ws s.full, subst (λ us. Holds world heap t us v) (sym a) s.holds, subst (λ ws. HoldsAll world heap ps ws vs) (sym b) r.holds);
        full = let e = s.full in let f = r.full in omega (arith, length-append us ws);
        reaches = λ m q.
            let e : foot heap m t (take (slots t) (us ++ ws)) q ≡ reached m es q = ap (λ us. foot heap m t us q) a ∙ s.reaches m q in
            let f : foot_all heap m ps (drop (slots t) (us ++ ws)) q ≡ reached m fs q = ap (λ ws. foot_all heap m ps ws q) b ∙ r.reaches m q in
            omega (arith, reached_both m es fs q);
      }

  -- one that is taken, before others
  pub gone : (x : List ℕ) (t : Tau) (ps : Parts) (b : Bool) (p : Place) (us : List Scalar) (vs : Vals) (es : List Event)
      → AreFine cells heap (if b then [] else misfit p ∷ []) → StandAll ps us vs es
      → StandAll (part x t true ps) (replicate (slots t) Unset ++ us) (values.more values.gone vs) ((if b then [] else misfit p ∷ []) ++ es)
  unfolding Holds foot slots
  gone x t ps false p us vs es f r = absurd f.0
  gone x t ps true p us vs es f r =
      let b = last_ones (slots t) (replicate (slots t) Unset) us (all_unset (slots t)) in
      record {
        holds = (enough (slots t) (replicate (slots t) Unset) us (all_unset (slots t)), refl, subst (λ us. HoldsAll world heap ps us vs) (sym b) r.holds);
        full = let e = r.full in omega (arith, length-append (replicate (slots t) Unset) us, all_unset (slots t));
        reaches = λ m q. ap (λ us. foot_all heap m ps us q) b ∙ r.reaches m q;
      }

  -- ---- alternatives

  -- one of unit that stands bare, at the first of these
  pub bare_here : (y : List ℕ) (taken : Bool) (t : Tau) (ps : Parts) (i : ℕ) (at : Place) (x : List ℕ) → bytes_eq x y ≡ true
      → AreFine cells heap (if not taken && is_unit t then [] else misfit at ∷ [])
      → Chosen (part y t taken ps) i (Word i ∷ Word 0 ∷ replicate (slots_of_parts ps) Unset) x values.nothing (if not taken && is_unit t then [] else misfit at ∷ [])
  unfolding Holds foot slots
  bare_here y false unit ps i at x e f = record {
    place = zero;
    number = i;
    rest = Word 0 ∷ replicate (slots_of_parts ps) Unset;
    are = refl;
    counts = omega arith;
    holds = (refl, is_name x y e, (refl, refl));
    full = omega (arith, all_unset (slots_of_parts ps));
    reaches = λ m q. refl;
  }
  bare_here y taken t ps i at x e f = absurd f.0

  -- one with a payload, at the first of these
  pub applied_here : (y : List ℕ) (taken : Bool) (t : Tau) (ps : Parts) (i : ℕ) (at : Place) (x : List ℕ) (us : List Scalar) (v : Val) (es : List Event) → bytes_eq x y ≡ true
      → (AreFine cells heap es → Stands t us v es)
      → AreFine cells heap (if taken then misfit at ∷ [] else es)
      → Chosen (part y t taken ps) i (Word i ∷ (us ++ replicate (slots_of_parts ps) Unset)) x v (if taken then misfit at ∷ [] else es)
  unfolding Holds foot slots
  applied_here y true t ps i at x us v es e g f = absurd f.0
  applied_here y false t ps i at x us v es e g f =
      let s = g f in let others = replicate (slots_of_parts ps) Unset in let a = first_ones (slots t) us others s.full in
      record {
        place = zero;
        number = i;
        rest = us ++ others;
        are = refl;
        counts = omega arith;
        holds = (refl, is_name x y e, subst (λ us. Holds world heap t us v) (sym a) s.holds);
        full = let e = s.full in omega (arith, length-append us others, all_unset (slots_of_parts ps));
        reaches = λ m q. ap (λ us. foot heap m t us q) a ∙ s.reaches m q;
      }

  -- one behind the first
  later : (y : List ℕ) (t : Tau) (taken : Bool) (ps : Parts) (i : ℕ) (us : List Scalar) (x : List ℕ) (v : Val) (es : List Event)
      → Chosen ps (suc i) us x v es → Chosen (part y t taken ps) i (skipped us (slots t)) x v es
  unfolding Holds foot slots
  later y t taken ps i us x v es c =
      let unset = replicate (slots t) Unset in let b = last_ones (slots t) unset c.rest (all_unset (slots t)) in
      record {
        place = suc c.place;
        number = c.number;
        rest = unset ++ c.rest;
        are = ap (λ us. skipped us (slots t)) c.are;
        counts = let e = c.counts in omega arith;
        holds = subst (λ us. HoldsAt world heap ps c.place us x v) (sym b) c.holds;
        full = let e = c.full in omega (arith, length-append unset c.rest, all_unset (slots t));
        reaches = λ m q. ap (λ us. foot_at heap m ps c.place us q) b ∙ c.reaches m q;
      }

  -- the one of this name: the first, or one behind it
  pub here_or_later : (y : List ℕ) (t : Tau) (taken : Bool) (ps : Parts) (i : ℕ) (x : List ℕ) (us ws : List Scalar) (v : Bool → Val) (es fs : List Event)
      → (bytes_eq x y ≡ true → AreFine cells heap es → Chosen (part y t taken ps) i us x (v true) es)
      → (AreFine cells heap fs → Chosen ps (suc i) ws x (v false) fs)
      → AreFine cells heap (if bytes_eq x y then es else fs)
      → Chosen (part y t taken ps) i (if bytes_eq x y then us else skipped ws (slots t)) x (v (bytes_eq x y)) (if bytes_eq x y then es else fs)
  here_or_later y t taken ps i x us ws v es fs here behind = by (bytes_eq x y) refl
    where
      by : (b : Bool) → bytes_eq x y ≡ b → AreFine cells heap (if b then es else fs)
          → Chosen (part y t taken ps) i (if b then us else skipped ws (slots t)) x (v b) (if b then es else fs)
      by true e f = here e f
      by false e f = later y t taken ps i ws x (v false) fs (behind f)

  -- an alternative is a value of the variant
  pub chosen : (ps : Parts) (us : List Scalar) (x : List ℕ) (v : Val) (es : List Event) → Chosen ps zero us x v es → Stands (variant ps) us (values.chosen x v) es
  unfolding Holds foot slots
  chosen ps us x v es c =
      let at : c.number ≡ c.place = let e = c.counts in omega arith in
      subst (λ us. Stands (variant ps) us (values.chosen x v) es) (sym (c.are ∙ ap (λ n. Word n ∷ c.rest) at))
      (record { holds = (x, v, refl, c.full, c.holds, refl); full = let e = c.full in omega arith; reaches = c.reaches })

  -- ---- records

  -- fields are a value of a record that isn't boxed
  pub unboxed : (ps : Parts) (b : Bool) (at : Place) (us : List Scalar) (vs : Vals) (es : List Event)
      → (b ≡ true → AreFine cells heap es → StandAll ps us vs es)
      → AreFine cells heap (if b then es else misfit at ∷ []) → Stands (fields ps U) us (values.parts vs) (if b then es else misfit at ∷ [])
  unfolding Holds foot slots
  unboxed ps false at us vs es g f = absurd f.0
  unboxed ps true at us vs es g f =
      let r = g refl f in
      record { holds = (vs, tt, r.holds, refl); full = r.full; reaches = λ m q. let e = r.reaches m q in omega (arith, counted_unboxed m (first_address us) q) }
