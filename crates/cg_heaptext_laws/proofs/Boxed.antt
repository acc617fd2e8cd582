-- What is read by an address: an allocator, an array, or a boxed record.
use Rattle.std.proofs.Common.{◌≡◌, ℕ, ◌+◌, ◌≤◌, ◌^◌, true, nat_lt, IsTrue, List, [], ◌∷◌, map, length, Option, Some, None, if◌then◌else◌, refl, sym, ap, ◌∙◌, subst, arith, le-leb, lt-ltb}
use Rattle.std.proofs.lemmas.Bool.{and_from, and_parts}
use Rattle.std.proofs.lemmas.List.{length-map}
use Rattle.std.specs.List.{list_all}
use Rattle.std.specs.Str.{bytes_eq}
use Rattle.cg_base.specs.declared.kind.Sigil.{Sigil}
use Rattle.cg_base.specs.declared.kind.Sigil.TheVariants.{R, W, U}
use Rattle.cg_base.specs.declared.kind.Word.{Word}
use Rattle.cg_base.specs.declared.place.Place.{Place}
use Rattle.cg_base.specs.Types.{Tau, word, abs, fields, Taus, none, more, Parts, end, part}
use Rattle.cg_base.specs.Words.{bits}
use Rattle.cg_heap.specs.declared.cell.Cell.TheVariants.{Slots}
use Rattle.cg_heap.specs.declared.cell.Scalar.{Scalar}
use Rattle.cg_heap.specs.declared.cell.Scalar.TheVariants.{Address}
use Rattle.cg_heap.specs.Reps as reps
use Rattle.cg_heap.specs.Reps.{Heap, HeapWorld, Holds, HoldsAll, StandsFor, foot, foot_all, is_boxed, slots, slots_in}
use Rattle.cg_value.specs.Fits.{is_array, most_elements}
use Rattle.cg_value.specs.Values as values
use Rattle.cg_value.specs.Values.{Vals}
use Rattle.cg_heaptext_def.specs.Reading.{Event, misfit, counted, mention, as_many, events_within, have_names, held_at, is_array_name, is_record, is_system, misfit_cell, scalars_all, slot_values, value_within}
use Rattle.cg_heaptext_def.specs.Trees as written
use Rattle.cg_heaptext_def.specs.Trees.{Numeral, amount, Fields, field, Cell, elements, answers, first_of, names_in, values_in}
use Rattle.cg_heaptext_laws.proofs.Each.{each_true}
use Rattle.cg_heaptext_laws.proofs.Events.{plain_within}
use Rattle.cg_heaptext_laws.proofs.Fine.{AreFine, IsFine, IsHeld, IsSmall, cell_is_fine, reached_plain}
use Rattle.cg_heaptext_laws.proofs.Standing.{StandAll, Stands}

-- ---- names, and how many

pub have_names_many : (ps : Parts) (fs : Fields) → have_names ps (names_in fs) ≡ true → as_many ps (values_in fs) ≡ true
have_names_many end written.end e = refl
have_names_many end (field y v fs) e = absurd (cc)
have_names_many (part x t taken ps) written.end e = absurd (cc)
have_names_many (part x t taken ps) (field y v fs) e = have_names_many ps fs (and_parts (bytes_eq x y) (have_names ps (names_in fs)) e).1

record_many : (ps : Parts) (o : Option Cell) → is_record ps o ≡ true → as_many ps (slot_values o) ≡ true
record_many ps (Some (written.slots p fs)) e = have_names_many ps fs e
record_many ps (Some (elements p ns)) e = absurd (cc)
record_many ps (Some (answers p bs)) e = absurd (cc)
record_many ps None e = absurd (cc)

-- what is held in a record's cell
record_held : (ps : Parts) (s : Sigil) (c : Cell) → is_record ps (Some c) ≡ true → held_at (Some (fields ps s)) c ≡ Slots (scalars_all ps (slot_values (Some c)))
record_held ps s (written.slots p fs) e = refl
record_held ps s (elements p ns) e = absurd (cc)
record_held ps s (answers p bs) e = absurd (cc)

module _ (world : HeapWorld) (cells : ℕ → Option Cell) (heap : Heap) where
  -- ---- abstract types

  all_below : (w : Word) (ns : List Numeral) → AreFine cells heap (map (λ n. counted n (2 ^ bits w)) ns) → list_all (λ n. nat_lt n (2 ^ bits w)) (map amount ns) ≡ true
  all_below w [] f = refl
  all_below w (n ∷ ns) f = and_from (nat_lt (amount n) (2 ^ bits w)) (list_all (λ n. nat_lt n (2 ^ bits w)) (map amount ns)) (lt-ltb (amount n) (2 ^ bits w) f.0) (all_below w ns f.1)

  array_fits : (w : Word) (ns : List Numeral) → length ns ≤ most_elements → AreFine cells heap (map (λ n. counted n (2 ^ bits w)) ns)
      → is_array w (values.elements (map amount ns)) ≡ true
  array_fits w ns small f =
      let few : length (map amount ns) ≤ most_elements = omega (arith, length-map ns amount) in
      and_from _ (list_all (λ n. nat_lt n (2 ^ bits w)) (map amount ns)) (le-leb (length (map amount ns)) most_elements few) (all_below w ns f)

  stands_for : (name : List ℕ) (ts : Taus) (c : Cell) (t : Option Tau) → AreFine cells heap (events_within name ts (Some c)) → IsSmall c
      → StandsFor world name ts (Some (held_at t c)) (value_within (Some c))
  stands_for name none (answers p bs) t f small = ((each_true (IsFine cells heap) (is_system name) [] (misfit p ∷ []) (λ g. g.0) f).0, refl)
  stands_for name (more (word w) none) (elements p ns) t f small =
      let g = each_true (IsFine cells heap) (is_array_name name) (map (λ n. counted n (2 ^ bits w)) ns) (misfit p ∷ []) (λ g. g.0) f in
      (and_from (is_array_name name) (is_array w (values.elements (map amount ns))) g.0 (array_fits w ns small g.1), refl)
  stands_for name ts c t f small = absurd f.0

  -- an address of a cell of an abstract type
  pub abstract_stands : (name : List ℕ) (ts : Taus) (s : Sigil) (p : Place) (q : ℕ) → IsTrue (is_boxed s) → IsHeld cells heap q (abs name ts s)
      → AreFine cells heap (events_within name ts (cells q))
      → Stands world cells heap (abs name ts s) (Address q ∷ []) (value_within (cells q)) (mention p q (abs name ts s) ∷ events_within name ts (cells q))
  unfolding Holds foot slots
  abstract_stands name ts s p q boxed h f =
      let t = Some (abs name ts s) in
      let inside = stands_for name ts h.cell t (subst (λ o. AreFine cells heap (events_within name ts o)) h.there f) h.small in
      let read = subst (λ o. StandsFor world name ts (Some (held_at t h.cell)) (value_within o)) (sym h.there) inside in
      record {
        holds = (boxed, (refl, h.above), subst (λ o. StandsFor world name ts o (value_within (cells q))) (sym h.held) read);
        full = refl;
        reaches = λ m r. let e = reached_plain m (events_within name ts (cells q)) r (plain_within name ts (cells q)) in let x = reps.counted m s q r in omega arith;
      }

  -- ---- boxed records

  -- an address of a cell of slots, in which fields stand
  at_slots : (ps : Parts) (s : Sigil) (p : Place) (q : ℕ) (us : List Scalar) (vs : Vals) (es : List Event) → IsTrue (is_boxed s) → 1 ≤ q → heap q ≡ Some (Slots us)
      → StandAll world cells heap ps us vs es → Stands world cells heap (fields ps s) (Address q ∷ []) (values.parts vs) (mention p q (fields ps s) ∷ es)
  unfolding Holds foot slots
  at_slots ps U p q us vs es boxed above e r = absurd (cc)
  at_slots ps R p q us vs es boxed above e r =
      let within : slots_in (heap q) ≡ us = ap slots_in e in
      record {
        holds = (vs, ((refl, above), e ∙ ap (λ us. Some (Slots us)) (sym within)), subst (λ us. HoldsAll world heap ps us vs) (sym within) r.holds, refl);
        full = refl;
        reaches = λ m k. ap (λ n. reps.counted m R q k + n) (ap (λ us. foot_all heap m ps us k) within ∙ r.reaches m k);
      }
  at_slots ps W p q us vs es boxed above e r =
      let within : slots_in (heap q) ≡ us = ap slots_in e in
      record {
        holds = (vs, ((refl, above), e ∙ ap (λ us. Some (Slots us)) (sym within)), subst (λ us. HoldsAll world heap ps us vs) (sym within) r.holds, refl);
        full = refl;
        reaches = λ m k. ap (λ n. reps.counted m W q k + n) (ap (λ us. foot_all heap m ps us k) within ∙ r.reaches m k);
      }

  -- an address of a record's cell, where what was met in it is fine
  pub record_stands : (ps : Parts) (s : Sigil) (p : Place) (q : ℕ) (vs : Vals) (es : List Event) → IsTrue (is_boxed s) → IsHeld cells heap q (fields ps s)
      → (as_many ps (slot_values (cells q)) ≡ true → AreFine cells heap es → StandAll world cells heap ps (scalars_all ps (slot_values (cells q))) vs es)
      → AreFine cells heap (if is_record ps (cells q) then es else misfit_cell (cells q))
      → Stands world cells heap (fields ps s) (Address q ∷ []) (values.parts vs) (mention p q (fields ps s) ∷ (if is_record ps (cells q) then es else misfit_cell (cells q)))
  record_stands ps s p q vs es boxed h g f =
      let us = scalars_all ps (slot_values (cells q)) in
      let is = each_true (IsFine cells heap) (is_record ps (cells q)) es (misfit_cell (cells q)) (cell_is_fine cells heap h.cell (cells q) h.there) f in
      let same : held_at (Some (fields ps s)) h.cell ≡ Slots us =
      subst (λ o. is_record ps o ≡ true → held_at (Some (fields ps s)) h.cell ≡ Slots (scalars_all ps (slot_values o))) (sym h.there) (record_held ps s h.cell) is.0 in
      let found = at_slots ps s p q us vs es boxed h.above (h.held ∙ ap Some same) (g (record_many ps (cells q) is.0) is.1) in
      subst (λ b. Stands world cells heap (fields ps s) (Address q ∷ []) (values.parts vs) (mention p q (fields ps s) ∷ (if b then es else misfit_cell (cells q)))) (sym is.0) found
