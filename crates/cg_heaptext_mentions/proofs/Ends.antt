-- The whole answers.
use Rattle.std.proofs.Common.{◌≡◌, ℕ, ◌+◌, ◌<◌, Bool, true, false, cond, ◌⊎◌, inl, inr, List, [], ◌∷◌, map, Option, Some, None, refl, sym, ap, ◌∙◌, subst, arith, true≢false}
use Rattle.std.proofs.lemmas.Bool.Decides.{nat_tests}
use Rattle.std.specs.Prelude.{is_none, nat_eq, nat_lt}
use Rattle.cg_base.proofs.Truths.{or_cases, or_left, or_true}
use Rattle.cg_base.specs.declared.place.Place.{Place}
use Rattle.cg_heaptext_def.specs.Footprints.{amounts, position_from}
use Rattle.cg_heaptext_def.specs.HeapText.{IsAbsent, Mention, addresses, cell_among, cells_of, mentions, most_addresses}
use Rattle.cg_heaptext_def.specs.Trees.{Entry, Heap, amount}
use Rattle.cg_heaptext_entries.specs.Index.{AreEntries, IsIndex}
use Rattle.cg_heaptext_entries.specs.declared.entry.EntryAt.{EntryAt}
use Rattle.cg_heaptext_entries.specs.declared.entry.Index.{Index}
use Rattle.cg_heaptext_places.specs.Noted.{IsLeast}
use Rattle.cg_heaptext_mentions.specs.Judged.{IsOut, entry_out, mention_out, absent_after, is_out, lacks, mention_out_of_range, note_all, numerals_after, out_after, out_of_range}
use Rattle.cg_heaptext_mentions.specs.Scans.{Scans, ScansCells}
use Rattle.cg_heaptext_mentions.proofs.Cells.{address_of, addresses_are, cells}
use Rattle.cg_heaptext_mentions.proofs.Meeting.{argument_met}
use Rattle.cg_heaptext_mentions.proofs.Picks.{IsPicked, both_least, note_map, picked_least}
use Rattle.cg_heaptext_mentions.proofs.Walk.{note_both}

-- ---- what is absent

-- an address has a cell exactly where it has a position
cell_or_position : (es : List Entry) (q k : ℕ) → is_none (cell_among es q) ≡ is_none (position_from k (map (λ e. amount e.address) es) q)
cell_or_position [] q k = refl
cell_or_position (e ∷ es) q k =
    elim (nat_eq (amount e.address) q) as (λ b. is_none (cond b (Some e.cell) (cell_among es q)) ≡ is_none (cond b (Some k) (position_from (k + 1) (map (λ e. amount e.address) es) q))) [
      | true ↦ refl
      | false ↦ cell_or_position es q (k + 1)
    ]

none_is : {A : Type 0} (o : Option A) → is_none o ≡ true → o ≡ None
none_is None e = refl
none_is (Some x) e = absurd (true≢false (sym e))

least_absent : (h : Heap) (found : Option Place) → found ≡ absent_after (amounts h) None (mentions h) → IsLeast (IsAbsent h) found
least_absent h found is = picked_least (lacks (amounts h)) (λ m. m.place) (IsAbsent h) (mentions h) found is to from
  where
    to : (p : Place) → IsPicked (lacks (amounts h)) (λ m. m.place) (mentions h) p → IsAbsent h p
    to p r = record { i = r.i; mention = r.item; there = r.there; absent = none_is (cells_of h (amount r.item.address)) (cell_or_position h.entries (amount r.item.address) 0 ∙ r.passes); at = r.at }

    from : (p : Place) → IsAbsent h p → IsPicked (lacks (amounts h)) (λ m. m.place) (mentions h) p
    from p a = record { i = a.i; item = a.mention; there = a.there; passes = sym (cell_or_position h.entries (amount a.mention.address) 0) ∙ ap is_none a.absent; at = a.at }

-- ---- what is out of range

zero_is : (n : ℕ) → nat_eq n 0 ≡ true → n ≡ 0
zero_is n e = grind (arith, nat_tests)

above_is : (n : ℕ) → nat_lt most_addresses n ≡ true → most_addresses < n
above_is n e = grind (arith, nat_tests)

is_above : (n : ℕ) → most_addresses < n → nat_lt most_addresses n ≡ true
is_above n l = grind (arith, nat_tests)

out_is : (n : ℕ) → is_out n ≡ true → (n ≡ 0) ⊎ (most_addresses < n)
out_is n e = by (or_cases (nat_eq n 0) (nat_lt most_addresses n) e)
  where
    by : (nat_eq n 0 ≡ true) ⊎ (nat_lt most_addresses n ≡ true) → (n ≡ 0) ⊎ (most_addresses < n)
    by (inl z) = inl (zero_is n z)
    by (inr l) = inr (above_is n l)

is_out_of : (n : ℕ) → (n ≡ 0) ⊎ (most_addresses < n) → is_out n ≡ true
is_out_of n (inl z) = or_left (nat_eq n 0) (nat_lt most_addresses n) (ap (λ m. nat_eq m 0) z)
is_out_of n (inr l) = or_true (nat_eq n 0) (nat_lt most_addresses n) (is_above n l)

abbrev entry_out_of_range : Entry → Bool
entry_out_of_range e = is_out (amount e.address)

abbrev OfEntry : Heap → Place → Type 0
OfEntry h p = IsPicked entry_out_of_range (λ e. e.address.place) h.entries p

abbrev OfMention : Heap → Place → Type 0
OfMention h p = IsPicked mention_out_of_range (λ m. m.address.place) (mentions h) p

least_out : (h : Heap) (found : Option Place) → found ≡ out_after (numerals_after None (map (λ e. e.address) h.entries)) (mentions h) → IsLeast (IsOut h) found
least_out h found is =
    both_least entry_out_of_range (λ e. e.address.place) mention_out_of_range (λ m. m.address.place) (IsOut h) h.entries (mentions h) found
    (is ∙ ap (λ f. out_after f (mentions h)) (note_map (λ e. e.address) out_of_range (λ n. n.place) None h.entries)) to from
  where
    to : (p : Place) → OfEntry h p ⊎ OfMention h p → IsOut h p
    to p (inl r) = entry_out r.i r.item r.there (out_is (amount r.item.address) r.passes) r.at
    to p (inr r) = mention_out r.i r.item r.there (out_is (amount r.item.address) r.passes) r.at

    from : (p : Place) → IsOut h p → OfEntry h p ⊎ OfMention h p
    from p (entry_out i e s o at) = inl (record { i = i; item = e; there = s; passes = is_out_of (amount e.address) o; at = at })
    from p (mention_out i m s o at) = inr (record { i = i; item = m; there = s; passes = is_out_of (amount m.address) o; at = at })

-- ---- cells, and the argument behind them

module _ (test : Mention → Bool) (place : Mention → Place) (h : Heap) (index : Index) (is : IsIndex index h) (xs : List EntryAt) (same : xs ≡ index.entries) where
  are : AreEntries xs h.entries
  are = subst (λ ys. AreEntries ys h.entries) (sym same) is.entries

  all_mentions : (before mid last : Option Place) → ScansCells (note_all test place) xs before mid → Scans (note_all test place) index.argument mid last → last ≡ note_all test place before (mentions h)
  all_mentions before mid last by_cells by_argument =
      let a = is.argument in
      by_argument a.0 a.1
      ∙ ap (note_all test place mid) (argument_met h.argument a.0 a.2)
      ∙ ap (λ f. note_all test place f (addresses h.argument)) (by_cells h.entries are)
      ∙ sym (note_both test place before (cells h.entries) (addresses h.argument))

pub judged_absent : (h : Heap) (index : Index) → IsIndex index h → (xs : List EntryAt) → xs ≡ index.entries → (mid last : Option Place)
    → ScansCells (absent_after (amounts h)) xs None mid → Scans (absent_after (amounts h)) index.argument mid last → IsLeast (IsAbsent h) last
judged_absent h index is xs same mid last by_cells by_argument = least_absent h last (all_mentions (lacks (amounts h)) (λ m. m.place) h index is xs same None mid last by_cells by_argument)

pub judged_out : (h : Heap) (index : Index) → IsIndex index h → (xs : List EntryAt) → xs ≡ index.entries → (first mid last : Option Place) → first ≡ numerals_after None (map address_of xs)
    → ScansCells out_after xs first mid → Scans out_after index.argument mid last → IsLeast (IsOut h) last
judged_out h index is xs same first mid last by_entries by_cells by_argument =
    least_out h last
    (all_mentions mention_out_of_range (λ m. m.address.place) h index is xs same first mid last by_cells by_argument
    ∙ ap (λ f. out_after f (mentions h)) (by_entries ∙ ap (numerals_after None) (addresses_are xs h.entries (subst (λ ys. AreEntries ys h.entries) (sym same) is.entries))))
