-- What a heap file has at an address: the first entry with it.
use Rattle.std.proofs.Common.{◌≡◌, ℕ, zero, suc, true, false, nat_eq, List, [], ◌∷◌, map, slice_get, Option, Some, if◌then◌else◌, refl, subst, eqb-true}
use Rattle.std.specs.List.{flat_map}
use Rattle.cg_base.proofs.Options.{some_is}
use Rattle.cg_base.specs.Types.{Tau}
use Rattle.cg_heap.specs.declared.cell.Cell.{Cell as Held}
use Rattle.cg_heaptext_def.specs.Footprints.{held_in}
use Rattle.cg_heaptext_def.specs.HeapText.{Mention, cell_among, mentioned_in}
use Rattle.cg_heaptext_def.specs.Reading.{held_at}
use Rattle.cg_heaptext_def.specs.Trees.{amount, Cell, Entry}
use Rattle.cg_heaptext_laws.proofs.Each.{Each, each_left, each_right}

pub record IsFound (es : List Entry) (q : ℕ) (c : Cell) : Type 0 where
  pub i : ℕ
  pub entry : Entry
  pub there : slice_get es i ≡ Some entry
  pub same : amount entry.address ≡ q
  pub is : entry.cell ≡ c

pub found : (es : List Entry) (q : ℕ) (c : Cell) → cell_among es q ≡ Some c → IsFound es q c
found [] q c e = absurd (cc)
found (x ∷ es) q c e =
    elim (nat_eq (amount x.address) q) as (λ b. nat_eq (amount x.address) q ≡ b → (if b then Some x.cell else cell_among es q) ≡ Some c → IsFound (x ∷ es) q c) [
      | true ↦ λ at e. record { i = zero; entry = x; there = refl; same = eqb-true (amount x.address) q at; is = some_is x.cell c e }
      | false ↦ λ at e. let f = found es q c e in record { i = suc f.i; entry = f.entry; there = f.there; same = f.same; is = f.is }
    ] refl e

-- what is so of all that entries mention is so of what the cell mentions
pub found_each : (P : Mention → Type 0) (es : List Entry) (q : ℕ) (c : Cell) → cell_among es q ≡ Some c
    → Each P (flat_map (λ e. mentioned_in e.cell) es) → Each P (mentioned_in c)
found_each P [] q c e h = absurd (cc)
found_each P (x ∷ es) q c e h =
    let others = flat_map (λ (e : Entry). mentioned_in e.cell) es in
    elim (nat_eq (amount x.address) q) as (λ b. (if b then Some x.cell else cell_among es q) ≡ Some c → Each P (mentioned_in c)) [
      | true ↦ λ e. subst (λ c. Each P (mentioned_in c)) (some_is x.cell c e) (each_left P (mentioned_in x.cell) others h)
      | false ↦ λ e. found_each P es q c e (each_right P (mentioned_in x.cell) others h)
    ] e

-- what the heap holds is what the cell holds, at the type at which it is read
pub found_held : (f : ℕ → Option Tau) (es : List Entry) (q : ℕ) (c : Cell) → cell_among es q ≡ Some c
    → held_in (map (λ (e : Entry). (amount e.address, held_at (f (amount e.address)) e.cell)) es) q ≡ Some (held_at (f q) c)
found_held f [] q c e = absurd (cc)
found_held f (x ∷ es) q c e =
    let others : List (ℕ × Held) = map (λ (e : Entry). (amount e.address, held_at (f (amount e.address)) e.cell)) es in
    elim (nat_eq (amount x.address) q) as (λ b. nat_eq (amount x.address) q ≡ b → (if b then Some x.cell else cell_among es q) ≡ Some c
    → (if b then Some (held_at (f (amount x.address)) x.cell) else held_in others q) ≡ Some (held_at (f q) c)) [
      | true ↦ λ at e. let same = eqb-true (amount x.address) q at in let is = some_is x.cell c e in λ k. Some (held_at (f (same k)) (is k))
      | false ↦ λ at e. found_held f es q c e
    ] refl e
