-- Addresses of entries are digits.
use Rattle.std.proofs.Common.{◌≡◌, ℕ, zero, suc, List, [], ◌∷◌, Option, Some, None, refl, sym, subst}
use Rattle.std.specs.List.{AllByRecursion}
use Rattle.std.specs.Prelude.{slice_get}
use Rattle.cg_base.proofs.Options.{some_is}
use Rattle.cg_base.specs.Bytes.{digit, Each}
use Rattle.cg_base.specs.declared.place.Place.{Place}
use Rattle.cg_heaptext_def.specs.Grammar.{HeapSpells, ReadsCell, ReadsEntries}
use Rattle.cg_heaptext_def.specs.Tokens.{Divides, IsToken, Lexeme, behind}
use Rattle.cg_heaptext_def.specs.Trees.{Cell, Entry, Heap}
use Rattle.cg_heaptext_def.specs.Trees as trees
use Rattle.cg_heaptext_entries.specs.Index.{AreEntries, IsEntry}
use Rattle.cg_heaptext_entries.specs.Skip.{next_depth, skipped, turn}
use Rattle.cg_heaptext_entries.specs.declared.entry.EntryAt.{EntryAt}
use Rattle.cg_heaptext_entries.proofs.Skips.{cell_passed}

-- ---- tokens

-- what stands in a file are tokens
abbrev pub EachToken : List Lexeme → Type 0
EachToken ts = AllByRecursion (λ t. IsToken t.token) ts

pub divided_tokens : (p : Place) (bytes : List ℕ) (ts : List Lexeme) (last : List ℕ) → Divides p bytes ts last → EachToken ts
divided_tokens p bytes [] last d = tt
divided_tokens p bytes (t ∷ ts) last d = (d.1.fits, divided_tokens (behind t) d.0 ts last d.2)

skipped_tokens : (o : Option ℕ) (ts : List Lexeme) → EachToken ts → EachToken (skipped o ts)
skipped_tokens None ts h = h
skipped_tokens (Some depth) [] h = tt
skipped_tokens (Some depth) (t ∷ ts) h = skipped_tokens (next_depth (turn t.token) depth) ts h.1

cell_tokens : (c : Cell) (ts rest : List Lexeme) → ReadsCell c ts rest → EachToken ts → EachToken rest
cell_tokens c ts rest r h = let p = cell_passed c ts rest r in subst EachToken p.3 (skipped_tokens (Some zero) p.1 (subst EachToken p.2 h).1)

-- ---- entries

abbrev pub EachAddress : List Entry → Type 0
EachAddress es = AllByRecursion (λ e. Each digit e.address.digits) es

entries_digits : (es : List Entry) (ts mid : List Lexeme) → EachToken ts → ReadsEntries es ts mid → EachAddress es
entries_digits [] ts mid h r = tt
entries_digits (e ∷ es) ts mid h r =
    let a = r.1 in
    let number = subst EachToken a.2.1 (subst EachToken a.1 h).1 in
    let cell = (subst EachToken a.2.2.1.1 number.1).1 in
    (number.0.1, entries_digits es r.0 mid (cell_tokens e.cell a.2.2.0 r.0 a.2.2.2 cell) r.2)

-- the addresses of a heap file's entries are digits
pub heap_digits : (bytes : List ℕ) (h : Heap) → HeapSpells bytes h → EachAddress h.entries
heap_digits bytes h s = entries_digits h.entries s.0 s.2.0 (divided_tokens _ bytes s.0 s.1.0 s.1.2) s.2.1

-- ---- where entries stand

-- an entry where this one stands, whose address is digits
pub record IsPair (x : EntryAt) (e : Entry) : Type 0 where
  pub is : IsEntry x e
  pub digits : Each digit x.address.digits.now

pair : (x : EntryAt) (e : Entry) → IsEntry x e → Each digit e.address.digits → IsPair x e
pair x e is digits = record { is = is; digits = subst (λ (n : trees.Numeral). Each digit n.digits) (sym is.address) digits }

-- each entry stands somewhere
pub entry_stands : (xs : List EntryAt) (es : List Entry) → AreEntries xs es → EachAddress es → (i : ℕ) (e : Entry) → slice_get es i ≡ Some e → (x : EntryAt) × (slice_get xs i ≡ Some x) × IsPair x e
entry_stands [] [] a d i e s = absurd (cc)
entry_stands [] (f ∷ es) a d i e s = absurd a
entry_stands (y ∷ xs) [] a d i e s = absurd a
entry_stands (y ∷ xs) (f ∷ es) a d zero e s = (y, refl, subst (IsPair y) (some_is f e s) (pair y f a.0 d.0))
entry_stands (y ∷ xs) (f ∷ es) a d (suc i) e s = entry_stands xs es a.1 d.1 i e s

-- and where one stands it is
pub stands_entry : (xs : List EntryAt) (es : List Entry) → AreEntries xs es → EachAddress es → (i : ℕ) (x : EntryAt) → slice_get xs i ≡ Some x → (e : Entry) × (slice_get es i ≡ Some e) × IsPair x e
stands_entry [] [] a d i x s = absurd (cc)
stands_entry [] (f ∷ es) a d i x s = absurd a
stands_entry (y ∷ xs) [] a d i x s = absurd a
stands_entry (y ∷ xs) (f ∷ es) a d zero x s = (f, refl, subst (λ z. IsPair z f) (some_is y x s) (pair y f a.0 d.0))
stands_entry (y ∷ xs) (f ∷ es) a d (suc i) x s = stands_entry xs es a.1 d.1 i x s
