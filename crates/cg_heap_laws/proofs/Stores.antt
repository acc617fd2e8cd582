-- What a store holds after a change.
use Rattle.std.proofs.Common.{◌≡◌, ℕ, Bool, true, false, cond, nat_eq, Option, Some, None, ◌⊎◌, inl, inr, refl, ap, ◌∙◌, arith, eqb-true}
use Rattle.std.specs.FinMap as map
use Rattle.std.specs.FinMap.{FinMap}
use Rattle.std.specs.Ordering.{nat_cmp, eq_by_cmp}
use Rattle.std.specs.Cmp.{nat_cmp_total}
use Rattle.cg_heap.proofs.Maps.{same_key}
use Rattle.cg_heap.specs.declared.cell.Cell.{Cell}
use Rattle.cg_heap.specs.Reps.{Heap}
use Rattle.cg_base.proofs.Counts.{eqb_same as eq_self}

-- an address is p or another
pub is_or_not : (p q : ℕ) → (p ≡ q) ⊎ (nat_eq p q ≡ false)
is_or_not p q = go (nat_eq p q) refl
  where
    go : (b : Bool) → nat_eq p q ≡ b → (p ≡ q) ⊎ (nat_eq p q ≡ false)
    go true e = inl (eqb-true p q e)
    go false e = inr e

-- the second heap is the first with this at an address
abbrev pub IsWritten : Heap → ℕ → Option Cell → Heap → Type 0
IsWritten h p o h' = (q : ℕ) → h' q ≡ cond (nat_eq p q) o (h q)

-- a map with one more cell, and without one
pub get_insert : (m : FinMap nat_cmp Cell) (p : ℕ) (c : Cell) → IsWritten (λ q. map.get m q) p (Some c) (λ q. map.get (map.insert m p c) q)
get_insert m p c q = map.get-insert nat_cmp_total m p c q ∙ ap (λ b. cond b (Some c) (map.get m q)) (same_key p q)

pub get_remove : (m : FinMap nat_cmp Cell) (p : ℕ) → IsWritten (λ q. map.get m q) p None (λ q. map.get (map.remove m p) q)
get_remove m p q = map.get-remove nat_cmp_total m p q ∙ ap (λ b. cond b None (map.get m q)) (same_key p q)

-- what stands at the address that is written, and at others
pub written_here : (h h' : Heap) (p : ℕ) (o : Option Cell) → IsWritten h p o h' → h' p ≡ o
written_here h h' p o w = w p ∙ ap (λ b. cond b o (h p)) (eq_self p)

pub written_other : (h h' : Heap) (p : ℕ) (o : Option Cell) → IsWritten h p o h' → (q : ℕ) → nat_eq p q ≡ false → h' q ≡ h q
written_other h h' p o w q n = w q ∙ ap (λ b. cond b o (h q)) n
