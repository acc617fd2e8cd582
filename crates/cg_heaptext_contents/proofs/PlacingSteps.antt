-- Cells are placed one by one.
use Rattle.std.proofs.Common.{◌≡◌, ℕ, zero, suc, ◌+◌, ◌<◌, ◌≤◌, Bool, true, false, ◌⊎◌, inl, inr, List, [], ◌∷◌, ◌++◌, length, map, take, refl, sym, ap, ◌∙◌, subst, arith}
use Rattle.std.proofs.Math.Nat.{min-eq_left}
use Rattle.std.proofs.lemmas.Bool.{cases_lt, eq-eqb, eqb-true, false≢true, lt-ltb, ltb-true, or_parts}
use Rattle.std.proofs.lemmas.List.{length-map, map-append, take_all}
use Rattle.std.specs.Option.{option_map}
use Rattle.std.proofs.lemmas.Option.{slice_get_within, slice_get-map}
use Rattle.std.specs.Prelude.{is_some, nat_eq, slice_get, Option, Some, None, if◌then◌else◌}
use Rattle.cg_base.proofs.Options.{some_is}
use Rattle.cg_base.proofs.Truths.{either_bool, or_cases}
use Rattle.cg_base.specs.declared.place.Place.{Place}
use Rattle.cg_base.specs.Places.{IsBefore}
use Rattle.cg_base.specs.Types.{Tau}
use Rattle.cg_heap.specs.declared.cell.Cell.{Cell as Held}
use Rattle.cg_heaptext_cells.specs.Cells.{IsAbove}
use Rattle.cg_heaptext_contents.specs.Contents.{IsContent, has_many}
use Rattle.cg_heaptext_contents.specs.Placings.{AreSmall, IsOverUnread, IsPlacing, is_too_large, pair_of}
use Rattle.cg_heaptext_contents.specs.declared.content.Content.{Content}
use Rattle.cg_heaptext_contents.specs.declared.placing.Placed.{Placed}
use Rattle.cg_heaptext_contents.specs.declared.placing.Placing.{Placing}
use Rattle.cg_heaptext_def.specs.HeapText.{HasMany, IsLarge, most_entries, numbers_in, placed, read_at}
use Rattle.cg_heaptext_def.specs.Reading.{held_at}
use Rattle.cg_heaptext_def.specs.Small.{capped_number, is_small_cell, most_word}
use Rattle.cg_heaptext_def.specs.Trees.{Cell, Entry, Heap, amount, slots, elements, answers}
use Rattle.cg_heaptext_entries.specs.Index.{AreEntries, IsEntry, numeral_of}
use Rattle.cg_heaptext_entries.specs.declared.entry.EntryAt.{EntryAt}
use Rattle.cg_heaptext_places.proofs.Noting.{joined_least, same_least}
use Rattle.cg_heaptext_places.specs.Noted.{IsLeast, joined, noted}
use Rattle.cg_value.specs.Fits.{most_elements}

-- ---- entries, and lists

entry_at : (xs : List EntryAt) (es : List Entry) → AreEntries xs es → (i : ℕ) (x : EntryAt) → slice_get xs i ≡ Some x → (e : Entry) × (slice_get es i ≡ Some e) × IsEntry x e
entry_at [] es a i x g = absurd (cc)
entry_at (y ∷ xs) [] a i x g = absurd a
entry_at (y ∷ xs) (e ∷ es) a zero x g = (e, refl, subst (λ z. IsEntry z e) (some_is y x g) a.0)
entry_at (y ∷ xs) (e ∷ es) a (suc i) x g = entry_at xs es a.1 i x g

as_long : (xs : List EntryAt) (es : List Entry) → AreEntries xs es → length xs ≡ length es
as_long [] [] a = refl
as_long [] (e ∷ es) a = absurd a
as_long (x ∷ xs) [] a = absurd a
as_long (x ∷ xs) (e ∷ es) a = ap suc (as_long xs es a.1)

take_more : {A : Type 0} (n : ℕ) (xs : List A) (x : A) → slice_get xs n ≡ Some x → take (suc n) xs ≡ take n xs ++ x ∷ []
take_more n [] x g = absurd (cc)
take_more zero (y ∷ ys) x g = ap (λ z. z ∷ []) (some_is y x g)
take_more (suc n) (y ∷ ys) x g = ap (λ zs. y ∷ zs) (take_more n ys x g)

-- below the next position: below this one, or at it
split : (j i : ℕ) → j < i + 1 → (j < i) ⊎ (j ≡ i)
split j i l = at (cases_lt j i)
  where
    at : (j < i) ⊎ (i ≤ j) → (j < i) ⊎ (j ≡ i)
    at (inl k) = inl k
    at (inr k) = inr (omega (arith, k, l))

-- ---- what holds of the entries in front

module _ (h : Heap) (t : Tau) where
  record OverBelow (i : ℕ) (place : Place) : Type 0 where
    over : IsOverUnread h t place
    below : over.i < i

  record LargeBelow (i : ℕ) (place : Place) : Type 0 where
    large : IsLarge h place
    below : large.i < i

  pub record PlacedSoFar (i : ℕ) (p : Placing) : Type 0 where
    over : IsLeast (OverBelow i) p.over
    large : IsLeast (LargeBelow i) p.large
    cells : AreSmall h t → map pair_of p.cells ≡ take i (placed h t)

  pub none_placed : (p : Placing) → p.cells ≡ [] → p.over ≡ None → p.large ≡ None → PlacedSoFar 0 p
  none_placed p cells over large = record {
    over = subst (IsLeast (OverBelow 0)) (sym over) (λ place o. none o.below);
    large = subst (IsLeast (LargeBelow 0)) (sym large) (λ place l. none l.below);
    cells = λ small. ap (map pair_of) cells;
  }
    where
      none : {n : ℕ} → n < 0 → ⊥
      none l = omega (arith, l)

  -- ---- one more entry

  module _ (i : ℕ) (e : Entry) (there : slice_get h.entries i ≡ Some e) where
    -- a number above a machine word, where nobody reads the cell
    over_weaker : (place : Place) → OverBelow i place → OverBelow (i + 1) place
    over_weaker place o = record { over = o.over; below = omega (arith, o.below) }

    over_here : (place : Place) → read_at h t (amount e.address) ≡ None → IsAbove most_word (numbers_in e.cell) place → OverBelow (i + 1) place
    over_here place unread above = record { over = record { i = i; entry = e; there = there; unread = unread; above = above }; below = omega arith }

    over_either : (place : Place) → OverBelow (i + 1) place → OverBelow i place ⊎ IsAbove most_word (numbers_in e.cell) place
    over_either place o = at (split o.over.i i o.below)
      where
        at : (o.over.i < i) ⊎ (o.over.i ≡ i) → OverBelow i place ⊎ IsAbove most_word (numbers_in e.cell) place
        at (inl l) = inl (record { over = o.over; below = l })
        at (inr s) =
            let same : o.over.entry ≡ e = some_is o.over.entry e (sym o.over.there ∙ ap (slice_get h.entries) s ∙ there) in
            inr (subst (λ (x : Entry). IsAbove most_word (numbers_in x.cell) place) same o.over.above)

    -- where it is read, nothing is added
    over_read : (s : Tau) → read_at h t (amount e.address) ≡ Some s → (place : Place) → OverBelow (i + 1) place → OverBelow i place
    over_read s read place o = at (split o.over.i i o.below)
      where
        at : (o.over.i < i) ⊎ (o.over.i ≡ i) → OverBelow i place
        at (inl l) = record { over = o.over; below = l }
        at (inr s') =
            let same : o.over.entry ≡ e = some_is o.over.entry e (sym o.over.there ∙ ap (slice_get h.entries) s' ∙ there) in
            absurd (none_some s (sym o.over.unread ∙ ap (λ (x : Entry). read_at h t (amount x.address)) same ∙ read))
          where
            none_some : (s : Tau) → None ≡ Some s → ⊥
            none_some s e = cc

    over_step : (r : Option Tau) → r ≡ read_at h t (amount e.address) → (b : Bool) → b ≡ is_some r → (old new other : Option Place) → (r ≡ None → IsLeast (IsAbove most_word (numbers_in e.cell)) other)
        → new ≡ (if b then old else joined old other) → IsLeast (OverBelow i) old → IsLeast (OverBelow (i + 1)) new
    over_step None is b read old new other here made w =
        subst (IsLeast (OverBelow (i + 1))) (ap (λ c. if c then old else joined old other) (sym read) ∙ sym made)
        (joined_least (OverBelow i) (IsAbove most_word (numbers_in e.cell)) (OverBelow (i + 1)) over_weaker (λ place above. over_here place (sym is) above) over_either old other w (here refl))
    over_step (Some s) is b read old new other here made w =
        subst (IsLeast (OverBelow (i + 1))) (ap (λ c. if c then old else joined old other) (sym read) ∙ sym made) (same_least (OverBelow i) (OverBelow (i + 1)) over_weaker (over_read s (sym is)) old w)

    -- an entry that is too large
    is_large : (many : Bool) → many ≡ has_many e.cell → is_too_large i many ≡ true → (i ≡ most_entries) ⊎ HasMany e.cell
    is_large many same e' = at (or_cases (nat_eq i most_entries) many e')
      where
        holds : (c : Cell) → has_many c ≡ true → HasMany c
        holds (slots p fs) e = absurd (false≢true e)
        holds (elements p ns) e = ltb-true most_elements (length ns) e
        holds (answers p bs) e = absurd (false≢true e)

        at : (nat_eq i most_entries ≡ true) ⊎ (many ≡ true) → (i ≡ most_entries) ⊎ HasMany e.cell
        at (inl l) = inl (eqb-true i most_entries l)
        at (inr m) = inr (holds e.cell (sym same ∙ m))

    isn't_large : (many : Bool) → many ≡ has_many e.cell → is_too_large i many ≡ false → (i ≡ most_entries) ⊎ HasMany e.cell → ⊥
    isn't_large many same small large = at large
      where
        parts : (nat_eq i most_entries ≡ false) × (many ≡ false)
        parts = or_parts (nat_eq i most_entries) many small

        holds : (c : Cell) → HasMany c → has_many c ≡ true
        holds (slots p fs) m = absurd m
        holds (elements p ns) m = lt-ltb most_elements (length ns) m
        holds (answers p bs) m = absurd m

        at : (i ≡ most_entries) ⊎ HasMany e.cell → ⊥
        at (inl l) = false≢true (sym parts.0 ∙ eq-eqb i most_entries l)
        at (inr m) = false≢true (sym parts.1 ∙ same ∙ holds e.cell m)

    large_weaker : (place : Place) → LargeBelow i place → LargeBelow (i + 1) place
    large_weaker place l = record { large = l.large; below = omega (arith, l.below) }

    large_here : (i ≡ most_entries) ⊎ HasMany e.cell → (place : Place) → place ≡ e.place → LargeBelow (i + 1) place
    large_here large place at = record { large = record { i = i; entry = e; there = there; large = large; at = at }; below = omega arith }

    entry_is : (place : Place) (l : LargeBelow (i + 1) place) → l.large.i ≡ i → l.large.entry ≡ e
    entry_is place l s = some_is l.large.entry e (sym l.large.there ∙ ap (slice_get h.entries) s ∙ there)

    large_either : (place : Place) → LargeBelow (i + 1) place → LargeBelow i place ⊎ (place ≡ e.place)
    large_either place l = at (split l.large.i i l.below)
      where
        at : (l.large.i < i) ⊎ (l.large.i ≡ i) → LargeBelow i place ⊎ (place ≡ e.place)
        at (inl k) = inl (record { large = l.large; below = k })
        at (inr s) = inr (l.large.at ∙ ap (λ (x : Entry). x.place) (entry_is place l s))

    large_not : ((i ≡ most_entries) ⊎ HasMany e.cell → ⊥) → (place : Place) → LargeBelow (i + 1) place → LargeBelow i place
    large_not none place l = at (split l.large.i i l.below)
      where
        moved : l.large.i ≡ i → (l.large.i ≡ most_entries) ⊎ HasMany l.large.entry.cell → (i ≡ most_entries) ⊎ HasMany e.cell
        moved s (inl k) = inl (sym s ∙ k)
        moved s (inr m) = inr (subst (λ (x : Entry). HasMany x.cell) (entry_is place l s) m)

        at : (l.large.i < i) ⊎ (l.large.i ≡ i) → LargeBelow i place
        at (inl k) = record { large = l.large; below = k }
        at (inr s) = absurd (none (moved s l.large.large))

    large_step : (many : Bool) (place : Place) (old new : Option Place) → many ≡ has_many e.cell → place ≡ e.place → new ≡ (if is_too_large i many then noted old place else old) → IsLeast (LargeBelow i) old → IsLeast (LargeBelow (i + 1)) new
    large_step many place old new same at made w = by (either_bool (is_too_large i many))
      where
        itself : (p : Place) → IsBefore p p → ⊥
        itself p (inl l) = omega (arith, l)
        itself p (inr b) = omega (arith, b.1)

        alone : IsLeast (λ p. p ≡ e.place) (Some place)
        alone = (at, λ p is before. itself place (subst (λ q. IsBefore q place) (is ∙ sym at) before))

        by : (is_too_large i many ≡ true) ⊎ (is_too_large i many ≡ false) → IsLeast (LargeBelow (i + 1)) new
        by (inl is) =
            subst (IsLeast (LargeBelow (i + 1))) (ap (λ c. if c then noted old place else old) (sym is) ∙ sym made)
            (joined_least (LargeBelow i) (λ p. p ≡ e.place) (LargeBelow (i + 1)) large_weaker (large_here (is_large many same is)) large_either old (Some place) w alone)
        by (inr isn't) =
            subst (IsLeast (LargeBelow (i + 1))) (ap (λ c. if c then noted old place else old) (sym isn't) ∙ sym made)
            (same_least (LargeBelow i) (LargeBelow (i + 1)) large_weaker (large_not (isn't_large many same isn't)) old w)

    -- its cell
    cells_step : (old new : List Placed) (x : Placed) → new ≡ old ++ x ∷ [] → (AreSmall h t → pair_of x ≡ (amount e.address, held_at (read_at h t (amount e.address)) e.cell))
        → (AreSmall h t → map pair_of old ≡ take i (placed h t)) → AreSmall h t → map pair_of new ≡ take (i + 1) (placed h t)
    cells_step old new x made is w small =
        let f : Entry → ℕ × Held = λ e. (amount e.address, held_at (read_at h t (amount e.address)) e.cell) in
        let at : slice_get (placed h t) i ≡ Some (f e) = slice_get-map f h.entries i ∙ ap (λ o. option_map f o) there in
        ap (map pair_of) made ∙ map-append pair_of old (x ∷ []) ∙ ap (λ ps. ps ++ pair_of x ∷ []) (w small) ∙ ap (λ p. take i (placed h t) ++ p ∷ []) (is small)
        ∙ sym (take_more i (placed h t) (f e) at) ∙ (let n : suc i ≡ i + 1 = omega arith in ap (λ m. take m (placed h t)) n)

  -- ---- all

  pub all_placed : (n : ℕ) (p : Placing) → length h.entries ≤ n → PlacedSoFar n p → IsPlacing h t p
  all_placed n p long w = record {
    over = same_least (OverBelow n) (IsOverUnread h t) (λ place o. o.over) (λ place o. record { over = o; below = let l = slice_get_within h.entries o.i o.entry o.there in omega (arith, l, long) }) p.over w.over;
    large = same_least (LargeBelow n) (IsLarge h) (λ place l. l.large) (λ place l. record { large = l; below = let k = slice_get_within h.entries l.i l.entry l.there in omega (arith, k, long) }) p.large w.large;
    cells = λ small. w.cells small ∙ take_all n (placed h t) (omega (arith, long, length-map {B = ℕ × Held} h.entries (λ e. (amount e.address, held_at (read_at h t (amount e.address)) e.cell))));
  }

-- an entry more, in whatever heap file
pub one_more : (h : Heap) (t : Tau) (xs : List EntryAt) (i : ℕ) (x : EntryAt) (r : Option Tau) (b : Bool) (content : Content) (old new : Placing) → AreEntries xs h.entries → slice_get xs i ≡ Some x
    → ((e : Entry) → slice_get h.entries i ≡ Some e → r ≡ read_at h t (amount e.address)) → ((e : Entry) → IsEntry x e → IsContent r e.cell content) → b ≡ is_some r
    → new.over ≡ (if b then old.over else joined old.over content.over) → new.large ≡ (if is_too_large i content.many then noted old.large x.place else old.large)
    → new.cells ≡ old.cells ++ record { at = capped_number (amount (numeral_of x.address)); cell = content.cell } ∷ []
    → PlacedSoFar h t i old → PlacedSoFar h t (i + 1) new
one_more h t xs i x r b content old new a there read holds is over large cells w =
    let e = entry_at xs h.entries a i x there in
    let c = holds e.0 e.2 in
    let is_read = read e.0 e.1 in
    record {
      over = over_step h t i e.0 e.1 r is_read b is old.over new.over content.over c.over over w.over;
      large = large_step h t i e.0 e.1 content.many x.place old.large new.large c.many e.2.place large w.large;
      cells = cells_step h t i e.0 e.1 old.cells new.cells (record { at = capped_number (amount (numeral_of x.address)); cell = content.cell }) cells
          (λ small.
          let s = small i e.0 e.1 in
          let at : capped_number (amount (numeral_of x.address)) ≡ amount e.0.address = ap (λ n. capped_number (amount n)) e.2.address ∙ min-eq_left (omega (arith, s.0)) in
          let held : content.cell ≡ held_at (read_at h t (amount e.0.address)) e.0.cell = c.cell (ap (λ o. is_small_cell (held_at o e.0.cell)) is_read ∙ s.1) ∙ ap (λ o. held_at o e.0.cell) is_read in
          λ k. (at k, held k))
          w.cells;
    }

pub entries_end : (h : Heap) (t : Tau) (xs : List EntryAt) (n : ℕ) (p : Placing) → AreEntries xs h.entries → length xs ≤ n → PlacedSoFar h t n p → IsPlacing h t p
entries_end h t xs n p a long w = all_placed h t n p (omega (arith, long, as_long xs h.entries a)) w

pub some_of_map : {A B : Type 0} (f : A → B) (o : Option A) → is_some (option_map f o) ≡ is_some o
some_of_map f None = refl
some_of_map f (Some x) = refl
