-- The cells of a heap file without faults can be put into a store.
use Rattle.std.proofs.Common.{◌≡◌, ℕ, zero, suc, ◌+◌, ◌<◌, ◌≤◌, ◌^◌, List, length, slice_get, Option, Some, None, option_map, inl, inr, ⊎_elim, refl, sym, ap, ◌∙◌, subst, arith}
use Rattle.std.proofs.lemmas.Bool.{cases_order}
use Rattle.std.proofs.lemmas.List.{length-map}
use Rattle.std.proofs.lemmas.Option.{slice_get-map}
use Rattle.std.proofs.Math.Nat.{lt_of_not-le}
use Rattle.cg_base.proofs.Options.{some_is}
use Rattle.cg_base.specs.Types.{Tau, fields}
use Rattle.cg_typing.specs.Parts.{nodes}
use Rattle.cg_heap.specs.Stored.{cell_length}
use Rattle.cg_heap.specs.declared.cell.Cell.{Cell as Held}
use Rattle.cg_value.specs.Fits.{most_elements}
use Rattle.cg_heaptext_def.specs.Grammar.{HeapSpells}
use Rattle.cg_heaptext_def.specs.HeapText.{HasMany, IsOver, IsSecond, Lacks, LacksBefore, Never, cells_of, entry_out, large, most_addresses, placed, read_at, read_events}
use Rattle.cg_heaptext_def.specs.Reading.{held_at}
use Rattle.cg_heaptext_def.specs.Trees as written
use Rattle.cg_heaptext_def.specs.Trees.{Cell, elements, answers, Entry, Heap, amount, bare, first, values_in}
use Rattle.cg_heaptext_laws.proofs.SmallReads.{IsSized, first_is_read, reads}
use Rattle.cg_heaptext_laws.proofs.SmallTexts.{all_narrow}
use Rattle.cg_heaptext_placed_laws.proofs.Counts.{loose_length, loose_within}
use Rattle.cg_heaptext_placed_laws.proofs.Spread.{all_spread}
use Rattle.cg_heaptext_placed_laws.specs.Laws.{TextsCanBePlaced}

-- ---- how long a cell is: as long as an array may be, as its type has nodes, or as the file has bytes

-- a cell is read at a type that is no larger than types may be, or at none
abbrev IsReadAt : Option Tau → Type 0
IsReadAt (Some s) = IsSized s
IsReadAt None = Unit {0}

length_held : (o : Option Tau) (c : Cell) → IsReadAt o → (HasMany c → ⊥) → loose_length c ≤ 16777216 → cell_length (held_at o c) < 2 ^ 32
length_held o (elements p ns) read few loose = let most : length ns < most_elements + 1 = lt_of_not-le few in omega (arith, most, length-map ns amount)
length_held o (answers p bs) read few loose = omega (arith, loose)
length_held (Some (fields ps s)) (written.slots p fs) read few loose = omega (arith, read, all_spread ps (values_in fs))
length_held o (written.slots p fs) read few loose = omega (arith, loose)

-- ---- entries as they are placed

module _ (h : Heap) (t : Tau) where
  abbrev placed_as : Entry → ℕ × Held
  placed_as e = (amount e.address, held_at (read_at h t (amount e.address)) e.cell)

  -- a cell stands where its entry does
  record IsEntry (i : ℕ) (c : ℕ × Held) : Type 0 where
    pub entry : Entry
    pub there : slice_get h.entries i ≡ Some entry
    pub is : c ≡ placed_as entry

  entry_of : (i : ℕ) (c : ℕ × Held) → slice_get (placed h t) i ≡ Some c → IsEntry i c
  entry_of i c e = among (slice_get h.entries i) refl (sym (slice_get-map placed_as h.entries i) ∙ e)
    where
      among : (o : Option Entry) → slice_get h.entries i ≡ o → option_map placed_as o ≡ Some c → IsEntry i c
      among None there e = absurd (cc)
      among (Some x) there e = record { entry = x; there = there; is = sym (some_is (placed_as x) c e) }

  -- ---- without H2 addresses are apart

  entries_apart : Never (IsSecond h) → (i j : ℕ) (d e : Entry) → slice_get h.entries i ≡ Some d → slice_get h.entries j ≡ Some e → amount d.address ≡ amount e.address → i ≡ j
  entries_apart never i j d e one other same = ⊎_elim
      (λ equal. equal)
      (λ order. absurd (⊎_elim
      (λ below. never e.place (record { i = i; j = j; earlier = d; later = e; order = below; one = one; other = other; same = same; at = refl }))
      (λ above. never d.place (record { i = j; j = i; earlier = e; later = d; order = above; one = other; other = one; same = sym same; at = refl }))
      order))
      (cases_order i j)

  -- ---- without H5 they are in range

  above_null : Never (IsOver h t) → (i : ℕ) (e : Entry) → slice_get h.entries i ≡ Some e → 1 ≤ amount e.address
  above_null never i e there = among (amount e.address) refl
    where
      among : (n : ℕ) → amount e.address ≡ n → 1 ≤ n
      among zero is = absurd (never e.address.place (entry_out i e there (inl is) refl))
      among (suc n) is = omega arith

  in_range : Never (IsOver h t) → (i : ℕ) (e : Entry) → slice_get h.entries i ≡ Some e → amount e.address < 2 ^ 32
  in_range never i e there =
      let most : amount e.address < most_addresses + 1 = lt_of_not-le (λ far. never e.address.place (entry_out i e there (inr far) refl)) in
      omega (arith, most)

  -- ---- without H7 and in a file that isn't too long no cell is too long

  entry_short : (bytes : List ℕ) → length bytes ≤ 16777216 → nodes t ≤ 1024 → HeapSpells bytes h → LacksBefore large h t → Lacks large h t
      → (i : ℕ) (e : Entry) → slice_get h.entries i ≡ Some e → cell_length (held_at (read_at h t (amount e.address)) e.cell) < 2 ^ 32
  entry_short bytes short sized spells before never i e there =
      length_held (read_at h t (amount e.address)) e.cell (read (read_at h t (amount e.address)) refl)
      (λ many. never e.place (record { i = i; entry = e; there = there; large = inr many; at = refl }))
      (omega (arith, short, loose_within bytes h i e spells there))
    where
      read : (o : Option Tau) → read_at h t (amount e.address) ≡ o → IsReadAt o
      read None at = tt
      read (Some s) at =
          let all = reads (cells_of h) t (first h.argument) (bare h.argument) sized (all_narrow h t before.3 before.1 before.2) in
          (first_is_read (cells_of h) (read_events h t) (amount e.address) s all at).0

pub texts_can_be_placed : TextsCanBePlaced
texts_can_be_placed bytes h t short sized spells before never = record {
  apart = λ i j c d one other same.
      let x = entry_of h t i c one in
      let y = entry_of h t j d other in
      entries_apart h t before.0 i j x.entry y.entry x.there y.there (sym (ap (λ (c : ℕ × Held). c.0) x.is) ∙ same ∙ ap (λ (c : ℕ × Held). c.0) y.is);
  least = λ i c one. let x = entry_of h t i c one in subst (λ (c : ℕ × Held). 1 ≤ c.0) (sym x.is) (above_null h t before.3 i x.entry x.there);
  most = λ i c one. let x = entry_of h t i c one in subst (λ (c : ℕ × Held). c.0 < 2 ^ 32) (sym x.is) (in_range h t before.3 i x.entry x.there);
  short = λ i c one.
      let x = entry_of h t i c one in
      subst (λ (c : ℕ × Held). cell_length c.1 < 2 ^ 32) (sym x.is) (entry_short h t bytes short sized spells before never i x.entry x.there);
}
