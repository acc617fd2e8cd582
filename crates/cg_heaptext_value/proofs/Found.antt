-- The cell at an address is that of the entry at the position of its number.
use Rattle.std.proofs.Common.{◌≡◌, ℕ, zero, suc, ◌+◌, Bool, true, false, List, [], ◌∷◌, map, Bor, refl, sym, ap, ◌∙◌, subst, arith, if◌then◌else◌}
use Rattle.std.proofs.lemmas.Option.{slice_get-get_or, slice_get_past}
use Rattle.std.specs.Slice.{IsItemAt}
use Rattle.std.specs.Prelude.{nat_eq, slice_get, Option, Some, None}
use Rattle.cg_base.proofs.Options.{some_is}
use Rattle.cg_heaptext_def.specs.Footprints.{amounts, position_from}
use Rattle.cg_heaptext_def.specs.HeapText.{cell_among, cells_of}
use Rattle.cg_heaptext_def.specs.Trees.{Cell, Entry, Heap, amount}
use Rattle.cg_heaptext_entries.specs.Index.{AreEntries, CellStands}
use Rattle.cg_heaptext_entries.specs.declared.entry.EntryAt.{EntryAt}
use Rattle.cg_heaptext_lexer.specs.Next.{Cursor}
use Rattle.cg_heaptext_value.specs.Given.{IsFound}

-- ---- items of a list by their positions
pub item_none : {X : Type 0} (xs : List X) (i : ℕ) (r : Option (Bor X)) → IsItemAt xs i r → r ≡ None → slice_get xs i ≡ None
item_none xs i None h e = slice_get_past xs i h.3
item_none xs i (Some x) h e = absurd (cc)

pub item_some : {X : Type 0} (xs : List X) (i : ℕ) (r : Option (Bor X)) (x : Bor X) → IsItemAt xs i r → r ≡ Some x → slice_get xs i ≡ Some x.now
item_some xs i None x h e = absurd (cc)
item_some xs i (Some y) x h e = let is : y ≡ x = cc in slice_get-get_or xs i y.now h.3.0 ∙ ap Some (sym h.1) ∙ ap (λ y. Some y.now) is

-- ---- entries

-- an entry stands at this position, counted from a number on, with this cell; or there is none
abbrev IsThere : ℕ → List EntryAt → Option ℕ → Option Cell → Type 0
IsThere k xs None o = o ≡ None
IsThere k xs (Some i) o = (x : EntryAt) × (c : Cell) × (j : ℕ) × (i ≡ k + j) × (slice_get xs j ≡ Some x) × (o ≡ Some c) × CellStands x.cell c

there_behind : (k : ℕ) (x : EntryAt) (xs : List EntryAt) (i : Option ℕ) (o : Option Cell) → IsThere (k + 1) xs i o → IsThere k (x ∷ xs) i o
there_behind k x xs None o t = t
there_behind k x xs (Some i) o t = (t.0, t.1, suc t.2, omega (arith, t.3), t.4, t.5, t.6)

there_by : (b : Bool) (k : ℕ) (x : EntryAt) (xs : List EntryAt) (c : Cell) (o : Option Cell) (found : Option ℕ) → CellStands x.cell c → IsThere (k + 1) xs found o
    → IsThere k (x ∷ xs) (if b then Some k else found) (if b then Some c else o)
there_by true k x xs c o found s t = (x, c, zero, omega arith, refl, refl, s)
there_by false k x xs c o found s t = there_behind k x xs found o t

there : (n k : ℕ) (xs : List EntryAt) (es : List Entry) → AreEntries xs es → IsThere k xs (position_from k (map (λ e. amount e.address) es) n) (cell_among es n)
there n k [] [] a = refl
there n k [] (e ∷ es) a = absurd a
there n k (x ∷ xs) [] a = absurd a
there n k (x ∷ xs) (e ∷ es) a =
    there_by (nat_eq (amount e.address) n) k x xs e.cell (cell_among es n) (position_from (k + 1) (map (λ e. amount e.address) es) n) a.0.cell (there n (k + 1) xs es a.1)

none_by : (xs : List EntryAt) (i : ℕ) (o : Option Cell) → IsThere zero xs (Some i) o → slice_get xs i ≡ None → IsFound None o
none_by xs i o t e =
    let same : i ≡ t.2 = omega (arith, t.3) in
    let there : slice_get xs i ≡ Some t.0 = ap (slice_get xs) same ∙ t.4 in
    absurd (cc)

one_by : (xs : List EntryAt) (i : ℕ) (o : Option Cell) (x : EntryAt) (at : Cursor) → IsThere zero xs (Some i) o → slice_get xs i ≡ Some x → at ≡ x.cell → IsFound (Some at) o
one_by xs i o x at t e is =
    let same : i ≡ t.2 = omega (arith, t.3) in
    let entry : t.0 ≡ x = some_is t.0 x (sym t.4 ∙ ap (slice_get xs) (sym same) ∙ e) in
    let cell : t.0.cell ≡ at = ap (λ (y : EntryAt). y.cell) entry ∙ sym is in
    subst (IsFound (Some at)) (sym t.5) (subst (λ (c : Cursor). CellStands c t.1) cell t.6)

module _ (xs : List EntryAt) (h : Heap) (are : AreEntries xs h.entries) (n : ℕ) (found : Option ℕ) (is : found ≡ position_from 0 (amounts h) n) where
  here : (o : Option ℕ) → found ≡ o → IsThere zero xs o (cells_of h n)
  here o e = subst (λ f. IsThere zero xs f (cells_of h n)) (sym is ∙ e) (there n zero xs h.entries are)

  -- no entry has this address
  pub none_found : found ≡ None → IsFound None (cells_of h n)
  none_found e = subst (IsFound None) (sym (here None e)) tt

  pub past_found : (i : ℕ) → found ≡ Some i → slice_get xs i ≡ None → IsFound None (cells_of h n)
  past_found i e past = none_by xs i (cells_of h n) (here (Some i) e) past

  -- the entry at its position has it
  pub one_found : (i : ℕ) (x : EntryAt) (at : Cursor) → found ≡ Some i → slice_get xs i ≡ Some x → at ≡ x.cell → IsFound (Some at) (cells_of h n)
  one_found i x at e item cell = one_by xs i (cells_of h n) x at (here (Some i) e) item cell
