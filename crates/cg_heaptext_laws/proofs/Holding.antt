-- A value whose events are fine is represented, and reaches what was mentioned.
use Rattle.std.proofs.Common.{◌≡◌, ℕ, zero, suc, ◌<◌, Bool, true, false, ◌&&◌, not, List, [], ◌∷◌, ◌++◌, replicate, Option, if◌then◌else◌, refl, arith}
use Rattle.std.proofs.lemmas.Bool.{and_parts}
use Rattle.cg_base.specs.declared.kind.Sigil.TheVariants.{R, W, U}
use Rattle.cg_base.specs.declared.place.Place.{Place}
use Rattle.cg_base.specs.Types.{Tau, unit, word, bool, abs, variant, fields, Parts, end, part}
use Rattle.cg_heap.specs.declared.cell.Scalar.TheVariants.{Unset, Word}
use Rattle.cg_heap.specs.Reps.{Heap, HeapWorld, Holds, foot, slots, slots_of_parts}
use Rattle.cg_value.specs.Printed.{is_tuple, is_unit}
use Rattle.cg_value.specs.Values as values
use Rattle.cg_heaptext_def.specs.Reading.{misfit, as_many, bit_number, events, events_all, events_applied, events_bare, have_names, is_gone, scalars, scalars_all, scalars_applied, scalars_bare, slot_values, value, value_all, value_applied}
use Rattle.cg_heaptext_def.specs.Trees.{amount, Written, numeral, truth, nothing, address, constant, applied, tuple, record', Cell, first, bare, listed, values_in, names_in}
use Rattle.cg_heaptext_laws.proofs.Boxed.{abstract_stands, have_names_many, record_stands}
use Rattle.cg_heaptext_laws.proofs.Each.{each_left, each_right}
use Rattle.cg_heaptext_laws.proofs.Fine.{AreFine, IsFine}
use Rattle.cg_heaptext_laws.proofs.Standing.{Chosen, StandAll, Stands, applied_here, bare_here, chosen, gone, here_or_later, present, unboxed}

bit_below : (b : Bool) → bit_number b < 2
bit_below true = omega arith
bit_below false = omega arith

module _ (world : HeapWorld) (cells : ℕ → Option Cell) (heap : Heap) where
  -- a constructor that stands bare
  bare_stands : (ps : Parts) (at : Place) (i : ℕ) (x : List ℕ) → AreFine cells heap (events_bare cells ps at x)
      → Chosen world cells heap ps i (scalars_bare ps i x) x values.nothing (events_bare cells ps at x)
  unfolding events scalars
  bare_stands end at i x f = absurd f.0
  bare_stands (part y t taken ps) at i x f =
      let here = if not taken && is_unit t then [] else misfit at ∷ [] in
      let us = Word i ∷ Word 0 ∷ replicate (slots_of_parts ps) Unset in
      here_or_later world cells heap y t taken ps i x us (scalars_bare ps (suc i) x) (λ b. values.nothing) here (events_bare cells ps at x)
      (λ e g. bare_here world cells heap y taken t ps i at x e g) (λ g. bare_stands ps at (suc i) x g) f

  mutual
    unfolding events scalars value Holds foot slots

    -- a value
    pub stands : (t : Tau) (at : Place) (v : Written) → AreFine cells heap (events cells t at v) → Stands world cells heap t (scalars t v) (value cells t v) (events cells t at v)
    stands unit at (nothing p) f = record { holds = (refl, refl); full = refl; reaches = λ m q. refl }
    stands (word w) at (numeral n) f = record { holds = (refl, f.0, refl); full = refl; reaches = λ m q. refl }
    stands bool at (truth p b) f = record { holds = (refl, bit_below b, refl); full = refl; reaches = λ m q. refl }
    stands (abs name ts R) at (address p n) f = abstract_stands world cells heap name ts R p (amount n) refl f.0 f.1
    stands (abs name ts W) at (address p n) f = abstract_stands world cells heap name ts W p (amount n) refl f.0 f.1
    stands (variant ps) at (constant p x) f = chosen world cells heap ps (scalars_bare ps zero x) x values.nothing (events_bare cells ps at x) (bare_stands ps at zero x f)
    stands (variant ps) at (applied p x v) f =
        chosen world cells heap ps (scalars_applied ps zero x v) x (value_applied cells ps x v) (events_applied cells ps at x v) (applied_stands ps at zero x v f)
    stands (fields ps U) at (tuple p vs) f =
        let xs = listed vs in
        unboxed world cells heap ps (is_tuple ps U && as_many ps xs) at (scalars_all ps xs) (value_all cells ps xs) (events_all cells ps xs)
        (λ e g. all_stand ps xs (and_parts (is_tuple ps U) (as_many ps xs) e).1 g) f
    stands (fields ps U) at (record' p fs) f =
        let xs = values_in fs in
        unboxed world cells heap ps (have_names ps (names_in fs)) at (scalars_all ps xs) (value_all cells ps xs) (events_all cells ps xs)
        (λ e g. all_stand ps xs (have_names_many ps fs e) g) f
    stands (fields ps R) at (address p n) f =
        let xs = slot_values (cells (amount n)) in
        record_stands world cells heap ps R p (amount n) (value_all cells ps xs) (events_all cells ps xs) refl f.0 (λ e g. all_stand ps xs e g) f.1
    stands (fields ps W) at (address p n) f =
        let xs = slot_values (cells (amount n)) in
        record_stands world cells heap ps W p (amount n) (value_all cells ps xs) (events_all cells ps xs) refl f.0 (λ e g. all_stand ps xs e g) f.1
    stands t at v f = absurd f.0

    -- fields
    all_stand : (ps : Parts) (vs : List Written) → as_many ps vs ≡ true → AreFine cells heap (events_all cells ps vs)
        → StandAll world cells heap ps (scalars_all ps vs) (value_all cells ps vs) (events_all cells ps vs)
    all_stand end [] e f = record { holds = refl; full = refl; reaches = λ m q. refl }
    all_stand end (v ∷ vs) e f = absurd (cc)
    all_stand (part x t true ps) [] e f = absurd (cc)
    all_stand (part x t false ps) [] e f = absurd (cc)
    all_stand (part x t true ps) (v ∷ vs) e f =
        let here = if is_gone (bare v) then [] else misfit (first v) ∷ [] in
        let one = each_left (IsFine cells heap) here (events_all cells ps vs) f in
        let rest = all_stand ps vs e (each_right (IsFine cells heap) here (events_all cells ps vs) f) in
        gone world cells heap x t ps (is_gone (bare v)) (first v) (scalars_all ps vs) (value_all cells ps vs) (events_all cells ps vs) one rest
    all_stand (part x t false ps) (v ∷ vs) e f =
        let here = events cells t (first v) (bare v) in
        let one = stands t (first v) (bare v) (each_left (IsFine cells heap) here (events_all cells ps vs) f) in
        let rest = all_stand ps vs e (each_right (IsFine cells heap) here (events_all cells ps vs) f) in
        present world cells heap x t ps (scalars t (bare v)) (scalars_all ps vs) (value cells t (bare v)) (value_all cells ps vs) here (events_all cells ps vs) one rest

    -- a constructor with its payload
    applied_stands : (ps : Parts) (at : Place) (i : ℕ) (x : List ℕ) (v : Written) → AreFine cells heap (events_applied cells ps at x v)
        → Chosen world cells heap ps i (scalars_applied ps i x v) x (value_applied cells ps x v) (events_applied cells ps at x v)
    applied_stands end at i x v f = absurd f.0
    applied_stands (part y t taken ps) at i x v f =
        let es = events cells t (first v) (bare v) in
        let us = Word i ∷ (scalars t (bare v) ++ replicate (slots_of_parts ps) Unset) in
        here_or_later world cells heap y t taken ps i x us (scalars_applied ps (suc i) x v) (λ b. if b then value cells t (bare v) else value_applied cells ps x v)
        (if taken then misfit at ∷ [] else es) (events_applied cells ps at x v)
        (λ e g. applied_here world cells heap y taken t ps i at x (scalars t (bare v)) (value cells t (bare v)) es e (λ k. stands t (first v) (bare v) k) g)
        (λ g. applied_stands ps at (suc i) x v g) f
