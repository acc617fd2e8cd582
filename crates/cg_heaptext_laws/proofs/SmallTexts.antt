-- What a heap file without faults holds is small.
use Rattle.std.proofs.Common.{◌≡◌, ℕ, zero, suc, ◌+◌, ◌<◌, ◌≤◌, ◌^◌, true, false, nat_eq, List, [], ◌∷◌, ◌++◌, length, slice_get, Option, Some, None, inr, ⊎_elim, if◌then◌else◌, refl, sym, ap, ◌∙◌, subst, arith}
use Rattle.std.proofs.lemmas.Bool.{cases_order}
use Rattle.std.proofs.Math.Nat.{lt_of_not-le}
use Rattle.std.specs.List.{flat_map}
use Rattle.cg_base.proofs.Counts.{eqb_same}
use Rattle.cg_base.proofs.Options.{some_is}
use Rattle.cg_base.specs.Types.{Tau}
use Rattle.cg_typing.specs.Parts.{nodes}
use Rattle.cg_heaptext_def.specs.HeapText.{IsAbsent, IsMisfit, IsOver, IsSecond, Mention, Never, Nowhere, addresses, cell_among, cells_of, entry_out, mention_out, mentioned_in, mentions, most_addresses, numbers_in, over_type, over_word, read_at, read_events}
use Rattle.cg_heaptext_def.specs.Reading.{Event, misfit, counted, mention, held_at}
use Rattle.cg_heaptext_def.specs.Small.{is_small_cell}
use Rattle.cg_heaptext_def.specs.Trees.{amount, Entry, Heap, bare, first}
use Rattle.cg_heaptext_laws.proofs.Each.{Each, each_at, each_from, each_left, each_right, stands_there}
use Rattle.cg_heaptext_laws.proofs.Faultless.{all_open}
use Rattle.cg_heaptext_laws.proofs.Found.{found}
use Rattle.cg_heaptext_laws.proofs.Opening.{HasCell, IsOpen}
use Rattle.cg_heaptext_laws.proofs.Shapes.{opened}
use Rattle.cg_heaptext_laws.proofs.SmallCells.{small_cell}
use Rattle.cg_heaptext_laws.proofs.SmallLoose.{IsNear, small_unread}
use Rattle.cg_heaptext_laws.proofs.SmallReads.{first_is_read, reads}
use Rattle.cg_heaptext_laws.proofs.SmallScalars.{IsLow}
use Rattle.cg_heaptext_laws.proofs.SmallValues.{IsNarrow, small_value}
use Rattle.cg_heaptext_laws.specs.Laws.{TextsAreSmall}

-- ---- without H2 an entry's cell is the one at its address

has_cell : (es : List Entry) (i : ℕ) (e : Entry) → slice_get es i ≡ Some e → HasCell (cell_among es (amount e.address))
has_cell [] i e there = absurd (cc)
has_cell (x ∷ es) zero e there =
    let is = some_is x e there in (
      x.cell,
      ap (λ (e : Entry). if nat_eq (amount x.address) (amount e.address) then Some x.cell else cell_among es (amount e.address)) (sym is)
          ∙ ap (λ b. if b then Some x.cell else cell_among es (amount x.address)) (eqb_same (amount x.address)),
    )
has_cell (x ∷ es) (suc i) e there =
    elim (nat_eq (amount x.address) (amount e.address)) as (λ b. HasCell (if b then Some x.cell else cell_among es (amount e.address))) [
      | true ↦ (x.cell, refl)
      | false ↦ has_cell es i e there
    ]

own_cell : (h : Heap) → Never (IsSecond h) → (i : ℕ) (e : Entry) → slice_get h.entries i ≡ Some e → cells_of h (amount e.address) ≡ Some e.cell
own_cell h never i e there =
    let c = has_cell h.entries i e there in
    let f = found h.entries (amount e.address) c.0 c.1 in
    let one : e ≡ f.entry = ⊎_elim
    (λ same. some_is e f.entry (sym there ∙ ap (slice_get h.entries) same ∙ f.there))
    (λ order. absurd (⊎_elim
    (λ below. never f.entry.place (record { i = i; j = f.i; earlier = e; later = f.entry; order = below; one = there; other = f.there; same = sym f.same; at = refl }))
    (λ above. never e.place (record { i = f.i; j = i; earlier = f.entry; later = e; order = above; one = f.there; other = there; same = f.same; at = refl }))
    order))
    (cases_order i f.i) in
    c.1 ∙ ap Some (sym f.is ∙ ap (λ (e : Entry). e.cell) (sym one))

-- what is so of all that entries mention is so of what each mentions
each_entry : (P : Mention → Type 0) (es : List Entry) (i : ℕ) (e : Entry) → slice_get es i ≡ Some e
    → Each P (flat_map (λ e. mentioned_in e.cell) es) → Each P (mentioned_in e.cell)
each_entry P [] i e there h = absurd (cc)
each_entry P (x ∷ es) zero e there h =
    let others = flat_map (λ (e : Entry). mentioned_in e.cell) es in
    subst (λ (e : Entry). Each P (mentioned_in e.cell)) (some_is x e there) (each_left P (mentioned_in x.cell) others h)
each_entry P (x ∷ es) (suc i) e there h =
    let others = flat_map (λ (e : Entry). mentioned_in e.cell) es in
    each_entry P es i e there (each_right P (mentioned_in x.cell) others h)

-- ---- without H5 numbers and addresses are small

near : (a : ℕ) → (most_addresses < a → ⊥) → a < 2 ^ 64
near a none = let few : a < most_addresses + 1 = lt_of_not-le none in omega arith

module _ (h : Heap) (t : Tau) (no_over : Never (IsOver h t)) where
  -- the addresses that are mentioned
  all_near : Each IsNear (mentions h)
  all_near = each_from IsNear (mentions h) (λ front rest m e. near (amount m.address)
      (λ far. no_over m.address.place (mention_out (length front) m (ap (λ ms. slice_get ms (length front)) e ∙ stands_there front rest m) (inr far) refl)))

  -- the numbers of an entry that nobody reads
  all_low : (i : ℕ) (e : Entry) → slice_get h.entries i ≡ Some e → read_at h t (amount e.address) ≡ None → Each IsLow (numbers_in e.cell)
  all_low i e there none = each_from IsLow (numbers_in e.cell) (λ front rest n parts. lt_of_not-le
      (λ over. no_over n.place (over_word i (length front) e n there none (ap (λ ns. slice_get ns (length front)) parts ∙ stands_there front rest n) over refl)))

  -- what is met, where no address without a cell is mentioned and all fits
  module _ (no_absent : Never (IsAbsent h)) (no_misfit : Nowhere IsMisfit (read_events h t)) where
    narrow : (front rest : List Event) (e : Event) → read_events h t ≡ front ++ e ∷ rest → IsNarrow e
    narrow front rest (misfit p) parts = no_misfit front rest (misfit p) p parts refl
    narrow front rest (counted n bound) parts =
        lt_of_not-le (λ over. no_over n.place (over_type (length front) bound n (ap (λ es. slice_get es (length front)) parts ∙ stands_there front rest (counted n bound)) over refl))
    narrow front rest (mention p q s) parts =
        let met = each_at (IsOpen (cells_of h)) front rest (mention p q s) (subst (Each (IsOpen (cells_of h))) parts (all_open h t no_absent no_misfit)) in
        let f = found h.entries q met.0.0 met.0.1 in
        subst (λ q. q < 2 ^ 64) f.same (near (amount f.entry.address) (λ far. no_over f.entry.address.place (entry_out f.i f.entry f.there (inr far) refl)))

    pub all_narrow : Each IsNarrow (read_events h t)
    all_narrow = each_from IsNarrow (read_events h t) narrow

    -- ---- so entries are small
    module _ (no_second : Never (IsSecond h)) (sized : nodes t ≤ 1024) (i : ℕ) (e : Entry) (there : slice_get h.entries i ≡ Some e) where
      small_read : (s : Tau) → read_at h t (amount e.address) ≡ Some s → is_small_cell (held_at (Some s) e.cell) ≡ true
      small_read s at =
          let all = reads (cells_of h) t (first h.argument) (bare h.argument) sized all_narrow in
          let met = first_is_read (cells_of h) (read_events h t) (amount e.address) s all at in
          small_cell (cells_of h) s e.cell met.0 (subst (λ o. Each IsNarrow (opened (cells_of h) s o)) (own_cell h no_second i e there) met.1)

      small_entry : (o : Option Tau) → read_at h t (amount e.address) ≡ o → is_small_cell (held_at o e.cell) ≡ true
      small_entry (Some s) at = small_read s at
      small_entry None at =
          let others = flat_map (λ (e : Entry). mentioned_in e.cell) h.entries in
          small_unread e.cell (all_low i e there at) (each_entry IsNear h.entries i e there (each_left IsNear others (addresses h.argument) all_near))

pub texts_are_small : TextsAreSmall
texts_are_small h t sized lacks = (
  small_value (cells_of h) t (first h.argument) (bare h.argument) sized (all_narrow h t lacks.3 lacks.1 lacks.2),
  λ i e there. small_entry h t lacks.3 lacks.1 lacks.2 lacks.0 sized i e there (read_at h t (amount e.address)) refl,
)
