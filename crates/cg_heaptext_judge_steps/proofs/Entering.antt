-- The entry of an address that is mentioned.
use Rattle.std.proofs.Common.{◌≡◌, ℕ, zero, suc, ◌+◌, ◌≤◌, Bool, true, false, nat_eq, List, [], ◌∷◌, map, Some, None, Result, Err, if◌then◌else◌, refl, sym, ap, ◌∙◌, subst, arith, Bor}
use Rattle.std.specs.Prelude.{slice_get}
use Rattle.cg_base.proofs.Options.{some_is}
use Rattle.cg_base.specs.Bytes.{digit, Each}
use Rattle.cg_base.specs.declared.place.Place.{Place}
use Rattle.cg_base.specs.Types.{Tau}
use Rattle.cg_heaptext_def.specs.Footprints.{position_from}
use Rattle.cg_heaptext_def.specs.Grammar.{ReadsValue}
use Rattle.cg_heaptext_def.specs.HeapText.{addresses, cell_among, cells_of}
use Rattle.cg_heaptext_def.specs.Tokens.{Lexeme}
use Rattle.cg_heaptext_def.specs.Trees as trees
use Rattle.cg_heaptext_def.specs.Trees.{Cell, Entry, Heap, Written, address, inside, amount, bare}
use Rattle.cg_heaptext_entries.specs.Index.{AreEntries, CellStands, numeral_of}
use Rattle.cg_heaptext_entries.specs.declared.entry.EntryAt.{EntryAt}
use Rattle.cg_heaptext_entries.specs.declared.entry.Numeral.{Numeral}
use Rattle.cg_heaptext_index.proofs.Spelled.{EachToken, divided_tokens}
use Rattle.cg_heaptext_judge_notes.specs.declared.fault.JudgeFault.{JudgeFault}
use Rattle.cg_heaptext_judge_notes.specs.declared.fault.JudgeFault.TheVariants.{Misfit}
use Rattle.cg_heaptext_judge_notes.specs.declared.notes.Judged.{Judged}
use Rattle.cg_heaptext_judge_steps.specs.Sources.{AreThere, Enters, Reaches}
use Rattle.cg_heaptext_lexer.specs.Next.{Cursor}
use Rattle.cg_heaptext_values.specs.Values.{IsHead, StandsAt}
use Rattle.cg_heaptext_values.specs.declared.head.Head.{Head}
use Rattle.cg_heaptext_values.specs.declared.head.Head.TheVariants as head

abbrev numbers : List Entry → List ℕ
numbers es = map (λ e. amount e.address) es

no_earlier : (k : ℕ) (ns : List ℕ) (q i : ℕ) → position_from k ns q ≡ Some i → k ≤ i
no_earlier k [] q i e = absurd (cc)
no_earlier k (m ∷ ns) q i e =
    elim (nat_eq m q) as (λ b. (if b then Some k else position_from (k + 1) ns q) ≡ Some i → k ≤ i) [
      | true ↦ λ e. let same : k ≡ i = some_is k i e in omega (arith, same)
      | false ↦ λ e. omega (arith, no_earlier (k + 1) ns q i e)
    ] e

-- the entry at the position of an address has the cell of that address
abbrev Found : List Entry → ℕ → EntryAt → Type 0
Found es q x = (c : Cell) × (cell_among es q ≡ Some c) × CellStands x.cell c

pub entry_at : (xs : List EntryAt) (es : List Entry) (q k j : ℕ) → AreEntries xs es → position_from k (numbers es) q ≡ Some (k + j) → (x : EntryAt) × (slice_get xs j ≡ Some x) × Found es q x
entry_at [] [] q k j a p = absurd (cc)
entry_at [] (e ∷ es) q k j a p = absurd a
entry_at (y ∷ xs) [] q k j a p = absurd a
entry_at (y ∷ xs) (e ∷ es) q k zero a p = by (nat_eq (amount e.address) q) p
  where
    by : (b : Bool) → (if b then Some k else position_from (k + 1) (numbers es) q) ≡ Some (k + zero)
        → (x : EntryAt) × (slice_get (y ∷ xs) zero ≡ Some x) × ((c : Cell) × ((if b then Some e.cell else cell_among es q) ≡ Some c) × CellStands x.cell c)
    by true p = (y, refl, (e.cell, refl, a.0.cell))
    by false p = absurd (omega (arith, no_earlier (k + 1) (numbers es) q (k + zero) p))
entry_at (y ∷ xs) (e ∷ es) q k (suc j) a p = by (nat_eq (amount e.address) q) p (λ p. entry_at xs es q (k + 1) j a.1 p)
  where
    by : (b : Bool) → (if b then Some k else position_from (k + 1) (numbers es) q) ≡ Some (k + suc j)
        → (position_from (k + 1) (numbers es) q ≡ Some ((k + 1) + j) → (x : EntryAt) × (slice_get xs j ≡ Some x) × Found es q x)
        → (x : EntryAt) × (slice_get xs j ≡ Some x) × ((c : Cell) × ((if b then Some e.cell else cell_among es q) ≡ Some c) × CellStands x.cell c)
    by true p others = absurd (omega (arith, some_is k (k + suc j) p))
    by false p others = let same : k + suc j ≡ (k + 1) + j = omega arith in others (p ∙ ap Some same)

from_zero : (q j : ℕ) (ns : List ℕ) → position_from 0 ns q ≡ Some j → position_from 0 ns q ≡ Some (0 + j)
from_zero q j ns p = let same : j ≡ 0 + j = omega arith in p ∙ ap Some same

pub entry_is : (xs : List EntryAt) (es : List Entry) (q j : ℕ) (x : EntryAt) → AreEntries xs es → position_from 0 (numbers es) q ≡ Some j → Some x ≡ slice_get xs j → Found es q x
entry_is xs es q j x a p s =
    let f = entry_at xs es q 0 j a (from_zero q j (numbers es) p) in
    subst (Found es q) (some_is f.0 x (sym f.1 ∙ sym s)) f.2

pub entry_there : (xs : List EntryAt) (es : List Entry) (q j : ℕ) → AreEntries xs es → position_from 0 (numbers es) q ≡ Some j → None ≡ slice_get xs j → ⊥
entry_there xs es q j a p s = let f = entry_at xs es q 0 j a (from_zero q j (numbers es) p) in let e = s ∙ f.1 in absurd (cc)

-- an address that has a cell has a position
pub no_position : (es : List Entry) (q k : ℕ) (c : Cell) → position_from k (numbers es) q ≡ None → cell_among es q ≡ Some c → ⊥
no_position [] q k c p s = absurd (cc)
no_position (e ∷ es) q k c p s =
    elim (nat_eq (amount e.address) q) as (λ b. (if b then Some k else position_from (k + 1) (numbers es) q) ≡ None → (if b then Some e.cell else cell_among es q) ≡ Some c → ⊥) [
      | true ↦ λ p s. absurd (cc)
      | false ↦ λ p s. no_position es q (k + 1) c p s
    ] p s

-- ---- an address is digits

abbrev pub Digits : Written → Type 0
Digits (address p n) = Each digit n.digits
Digits w = Unit {0}

digits_read : (v : Written) (ts rest : List Lexeme) → EachToken ts → ReadsValue v ts rest → Digits (bare v)
digits_read (address p n) ts rest h r = (subst EachToken r.2 (subst EachToken r.1 h).1).0.1
digits_read (inside p v) ts rest h r = digits_read v r.0 r.2.0 (subst EachToken r.1 h).1 r.2.1
digits_read v ts rest h r = tt

pub digits_stand : (at : Cursor) (v : Written) → StandsAt at v → Digits (bare v)
digits_stand at v s = digits_read v s.ts s.rest (divided_tokens at.place at.rest s.ts s.before.0 s.before.2) s.reads

-- ---- a value that is an address

pub reached : (h : Heap) (old new : Judged) (t : Tau) (at place : Place) (n : Numeral) (r : Result (Bor Cursor) JudgeFault) (w : Written) → IsHead (head.Address place n) w → Digits w → AreThere h (addresses w)
    → (Each digit n.digits.now → (c : Cell) → cells_of h (amount (numeral_of n)) ≡ Some c → Enters h old t place (amount (numeral_of n)) r new) → Reaches h old t at w r new
reached h old new t at place n r (address p m) is digits there enters =
    let d = subst (λ (k : trees.Numeral). Each digit k.digits) (sym is.1) digits in
    let known : cells_of h (amount (numeral_of n)) ≡ Some there.0.0 = ap (λ (k : trees.Numeral). cells_of h (amount k)) is.1 ∙ there.0.1 in
    subst (λ (k : trees.Numeral). Enters h old t p (amount k) r new) is.1 (subst (λ o. Enters h old t o (amount (numeral_of n)) r new) is.0 (enters d there.0.0 known))
reached h old new t at place n r w is digits there enters = absurd is

pub other_reached : (h : Heap) (old : Judged) (t : Tau) (at place : Place) (x : Head) (w : Written) → IsHead x w → ((p : Place) (n : Numeral) → x ≡ head.Address p n → ⊥) → place ≡ at
    → Reaches h old t at w (Err (Misfit place)) old
other_reached h old t at place (head.Address p n) (address q m) is never e = absurd (never p n refl)
other_reached h old t at place x (address q m) is never e = absurd is
other_reached h old t at place x w is never e = e
