-- Where a heap file has no fault, what is met is fine.
use Rattle.std.proofs.Common.{◌≡◌, ◌≢◌, ◌⊎◌, ℕ, zero, suc, ◌+◌, ◌<◌, ◌≤◌, true, false, nat_eq, List, [], ◌∷◌, ◌++◌, length, slice_get, Option, Some, None, inl, inr, ⊎_elim, if◌then◌else◌, refl, sym, ap, ◌∙◌, subst, arith, eqb-true}
use Rattle.std.proofs.Math.Nat.{lt_of_not-le}
use Rattle.std.specs.List.{flat_map}
use Rattle.cg_base.proofs.Counts.{eqb_same}
use Rattle.cg_base.specs.declared.place.Place.{Place}
use Rattle.cg_base.specs.Types.{Tau}
use Rattle.cg_heap.specs.Reps.{Heap as Holdings}
use Rattle.cg_kinds.specs.Shapes.{shape}
use Rattle.cg_value.specs.Fits.{most_elements}
use Rattle.cg_heaptext_def.specs.Footprints.{held_in}
use Rattle.cg_heaptext_def.specs.HeapText.{IsAbsent, IsLarge, IsMisfit, IsOver, HasMany, Never, Nowhere, addresses, cells_of, entry_out, mentioned_in, mentions, over_type, placed, read_at, read_events, type_among}
use Rattle.cg_heaptext_def.specs.Reading.{Event, misfit, counted, mention, held_at, slot_values}
use Rattle.cg_heaptext_def.specs.Trees as written
use Rattle.cg_heaptext_def.specs.Trees.{Numeral, amount, Cell, elements, answers, Entry, Heap, bare, first}
use Rattle.cg_heaptext_laws.proofs.Each.{Each, each_at, each_from, each_left, each_right, stands_there}
use Rattle.cg_heaptext_laws.proofs.Events.{Fits}
use Rattle.cg_heaptext_laws.proofs.Fine.{AreFine, IsFine, IsHeld, IsSmall}
use Rattle.cg_heaptext_laws.proofs.Found.{found, found_each, found_held}
use Rattle.cg_heaptext_laws.proofs.Opening.{HasCell, IsKnown, IsOpen, IsThere, known_bare, known_in, opens}
use Rattle.cg_heaptext_laws.proofs.Shapes.{cell_same, opened}
use Rattle.cg_heaptext_laws.proofs.Stable.{held_stable}

-- ---- the type at which a cell is read first

-- what is mentioned was read first at some type: at this one, or at one before
first_read : (front rest : List Event) (p : Place) (q : ℕ) (t : Tau)
    → (s : Tau) × (type_among (front ++ mention p q t ∷ rest) q ≡ Some s) × ((s ≡ t) ⊎ ((i : ℕ) × (o : Place) × (slice_get front i ≡ Some (mention o q s))))
first_read [] rest p q t = (t, ap (λ b. if b then Some t else type_among rest q) (eqb_same q), inl refl)
first_read (misfit o ∷ front) rest p q t = let r = first_read front rest p q t in (r.0, r.1, ⊎_elim (λ e. inl e) (λ m. inr (suc m.0, m.1, m.2)) r.2)
first_read (counted n bound ∷ front) rest p q t = let r = first_read front rest p q t in (r.0, r.1, ⊎_elim (λ e. inl e) (λ m. inr (suc m.0, m.1, m.2)) r.2)
first_read (mention o r u ∷ front) rest p q t =
    let others = type_among (front ++ mention p q t ∷ rest) q in
    elim (nat_eq r q) as (λ b. nat_eq r q ≡ b
    → (s : Tau) × ((if b then Some u else others) ≡ Some s) × ((s ≡ t) ⊎ ((i : ℕ) × (at : Place) × (slice_get (mention o r u ∷ front) i ≡ Some (mention at q s))))) [
      | true ↦ λ e. (u, refl, inr (zero, o, ap (λ r. Some (mention o r u)) (eqb-true r q e)))
      | false ↦ λ e. let r = first_read front rest p q t in (r.0, r.1, ⊎_elim (λ e. inl e) (λ m. inr (suc m.0, m.1, m.2)) r.2)
    ] refl

-- what is read first is open
first_open : (cells : ℕ → Option Cell) (es : List Event) (q : ℕ) (s : Tau) → Each (IsOpen cells) es → type_among es q ≡ Some s → Each Fits (opened cells s (cells q))
first_open cells [] q s h e = absurd (cc)
first_open cells (misfit p ∷ es) q s h e = first_open cells es q s h.1 e
first_open cells (counted n bound ∷ es) q s h e = first_open cells es q s h.1 e
first_open cells (mention p r t ∷ es) q s h e =
    elim (nat_eq r q) as (λ b. nat_eq r q ≡ b → (if b then Some t else type_among es q) ≡ Some s → Each Fits (opened cells s (cells q))) [
      | true ↦ λ at e. let same : t ≡ s = cc in subst (λ q. Each Fits (opened cells s (cells q))) (eqb-true r q at) (subst (λ t. Each Fits (opened cells t (cells r))) same h.0.1)
      | false ↦ λ at e. first_open cells es q s h.1 e
    ] refl e

-- ---- without H3 each address that is mentioned has a cell

cell_or_none : (o : Option Cell) → (o ≡ None → ⊥) → HasCell o
cell_or_none None never = absurd (never refl)
cell_or_none (Some c) never = (c, refl)

all_there : (h : Heap) → Never (IsAbsent h) → Each (IsThere (cells_of h)) (mentions h)
all_there h never = each_from (IsThere (cells_of h)) (mentions h) (λ front rest m e. cell_or_none (cells_of h (amount m.address))
    (λ none. never m.place (record { i = length front; mention = m; there = ap (λ ms. slice_get ms (length front)) e ∙ stands_there front rest m; absent = none; at = refl })))

cells_known : (h : Heap) → Never (IsAbsent h) → (q : ℕ) (o : Option Cell) → cells_of h q ≡ o → Each (IsKnown (cells_of h)) (slot_values o)
cells_known h never q (Some (written.slots p fs)) e =
    known_in (cells_of h) fs (found_each (IsThere (cells_of h)) h.entries q (written.slots p fs) e
    (each_left (IsThere (cells_of h)) (flat_map (λ (e : Entry). mentioned_in e.cell) h.entries) (addresses h.argument) (all_there h never)))
cells_known h never q (Some (elements p ns)) e = tt
cells_known h never q (Some (answers p bs)) e = tt
cells_known h never q None e = tt

argument_known : (h : Heap) → Never (IsAbsent h) → IsKnown (cells_of h) (bare h.argument)
argument_known h never =
    known_bare (cells_of h) h.argument (each_right (IsThere (cells_of h)) (flat_map (λ (e : Entry). mentioned_in e.cell) h.entries) (addresses h.argument) (all_there h never))

-- ---- without H4 all that is met fits, and so does what is met in each cell

all_fit : (es : List Event) → Nowhere IsMisfit es → Each Fits es
all_fit es never = each_from Fits es (λ front rest e parts. fits front rest e parts)
  where
    fits : (front rest : List Event) (e : Event) → es ≡ front ++ e ∷ rest → Fits e
    fits front rest (misfit p) parts = never front rest (misfit p) p parts refl
    fits front rest (counted n bound) parts = tt
    fits front rest (mention p q t) parts = tt

pub all_open : (h : Heap) (t : Tau) → Never (IsAbsent h) → Nowhere IsMisfit (read_events h t) → Each (IsOpen (cells_of h)) (read_events h t)
all_open h t no_absent no_misfit =
    opens (cells_of h) (λ q. cells_known h no_absent q (cells_of h q) refl) t (first h.argument) (bare h.argument) (argument_known h no_absent) (all_fit (read_events h t) no_misfit)

-- ---- without H5 and H7 cells stand at addresses from 1 on, and arrays are small

above_null : (h : Heap) (t : Tau) (q : ℕ) (c : Cell) → Never (IsOver h t) → cells_of h q ≡ Some c → 1 ≤ q
above_null h t q c never e = go q refl
  where
    go : (n : ℕ) → q ≡ n → 1 ≤ q
    go zero z = let f = found h.entries q c e in absurd (never f.entry.address.place (entry_out f.i f.entry f.there (inl (f.same ∙ z)) refl))
    go (suc n) z = omega arith

small : (h : Heap) (q : ℕ) (c : Cell) → Never (IsLarge h) → cells_of h q ≡ Some c → IsSmall c
small h q (written.slots p fs) never e = tt
small h q (elements p ns) never e = not_many (λ many. let f = found h.entries q (elements p ns) e in
    never f.entry.place (record { i = f.i; entry = f.entry; there = f.there; large = inr (subst HasMany (sym f.is) many); at = refl }))
  where
    not_many : (most_elements < length ns → ⊥) → length ns ≤ most_elements
    not_many none = let few : length ns < most_elements + 1 = lt_of_not-le none in omega arith
small h q (answers p bs) never e = tt

-- ---- what is met is fine

-- a cell that fits two types holds the same at both, where their shapes can't differ
held_same : (cells : ℕ → Option Cell) (s t : Tau) (q : ℕ) (c : Cell) → cells q ≡ Some c → Each Fits (opened cells s (cells q)) → Each Fits (opened cells t (cells q))
    → ((shape s ≢ shape t) → ⊥) → held_at (Some s) c ≡ held_at (Some t) c
held_same cells s t q c there f g never =
    let first_fits = subst (λ o. Each Fits (opened cells s o)) there f in
    let second_fits = subst (λ o. Each Fits (opened cells t o)) there g in
    held_stable (Some s) (Some t) c (λ differ. never (λ e. differ (cell_same cells s t c e first_fits second_fits)))

module _ (h : Heap) (t : Tau) (no_absent : Never (IsAbsent h)) (no_misfit : Nowhere IsMisfit (read_events h t)) (no_over : Never (IsOver h t))
    (no_large : Never (IsLarge h)) where
  abbrev holdings : Holdings
  holdings = held_in (placed h t)

  -- a mention of a cell at a type finds it as it was read first
  mention_held : (front rest : List Event) (p : Place) (q : ℕ) (s : Tau) → read_events h t ≡ front ++ mention p q s ∷ rest → IsHeld (cells_of h) holdings q s
  mention_held front rest p q s parts =
      let all = all_open h t no_absent no_misfit in
      let met = each_at (IsOpen (cells_of h)) front rest (mention p q s) (subst (Each (IsOpen (cells_of h))) parts all) in
      let c = met.0.0 in let there = met.0.1 in
      let f = first_read front rest p q s in
      let read : read_at h t q ≡ Some f.0 = ap (λ es. type_among es q) parts ∙ f.1 in
      let shapes : (shape f.0 ≢ shape s) → ⊥ = λ other. ⊎_elim
      (λ e. other (ap shape e))
      (λ m. no_misfit front rest (mention p q s) p parts (refl, record { i = m.0; place = m.1; ty = f.0; there = m.2; holds = other }))
      f.2 in
      let same = held_same (cells_of h) f.0 s q c there (first_open (cells_of h) (read_events h t) q f.0 all read) met.1 shapes in
      record {
        cell = c;
        there = there;
        held = found_held (read_at h t) h.entries q c there ∙ ap (λ o. Some (held_at o c)) read ∙ ap Some same;
        above = above_null h t q c no_over there;
        small = small h q c no_large there;
      }

  event_fine : (front rest : List Event) (e : Event) → read_events h t ≡ front ++ e ∷ rest → IsFine (cells_of h) holdings e
  event_fine front rest (misfit p) parts = no_misfit front rest (misfit p) p parts refl
  event_fine front rest (counted n bound) parts =
      lt_of_not-le (λ over. no_over n.place (over_type (length front) bound n (ap (λ es. slice_get es (length front)) parts ∙ stands_there front rest (counted n bound)) over refl))
  event_fine front rest (mention p q s) parts = mention_held front rest p q s parts

  pub all_fine : AreFine (cells_of h) (held_in (placed h t)) (read_events h t)
  all_fine = each_from (IsFine (cells_of h) holdings) (read_events h t) event_fine
