-- The store that the cells of a heap file make: each cell at its address, and none above the greatest.
use Rattle.std.proofs.Common.{◌≡◌, ◌<◌, ◌^◌, ◌⊎◌, inl, inr, ℕ, suc, true, false, List, [], ◌∷◌, Option, Some, None, cond, arith, refl, sym, ap, ◌∙◌, subst, slice_get, if◌then◌else◌}
use Rattle.std.proofs.Math.Nat.{max_comm}
use Rattle.std.specs.Cmp.{nat_cmp_total}
use Rattle.std.specs.FinMap.{get-insert, get-empty, same_map, nat_cmp-IsAntisymmetric}
use Rattle.std.specs.Ordering.{nat_cmp, eq_by_cmp}
use Rattle.std.specs.Prelude.{max, nat_eq}
use Rattle.cg_base.proofs.Counts.{is_other}
use Rattle.cg_base.proofs.Truths.{either_bool}
use Rattle.cg_heap.proofs.Maps.{same_key}
use Rattle.cg_heap.specs.Calls.{heap_of}
use Rattle.cg_heap.specs.declared.cell.Cell.{Cell}
use Rattle.cg_heap.specs.Stored.{Stored, cell_at}
use Rattle.cg_heaptext_def.specs.Footprints.{held_in}
use Rattle.cg_heaptext.specs.Filled.{IsFilled, greatest}
use Rattle.cg_driver_text.specs.Filled.{filled, no_cells}

-- each cell stands at its address
pub filled_holds : (cs : List (ℕ × Cell)) (q : ℕ) → cell_at (filled cs no_cells) q ≡ held_in cs q
filled_holds [] q = get-empty nat_cmp q
filled_holds (c ∷ cs) q =
    get-insert nat_cmp_total (filled cs no_cells).cells c.0 c.1 q ∙ ap (λ b. cond b (Some c.1) (cell_at (filled cs no_cells) q)) (same_key c.0 q)
    ∙ ap (cond (nat_eq c.0 q) (Some c.1)) (filled_holds cs q)

-- none stands above the greatest
pub filled_low : (cs : List (ℕ × Cell)) (q : ℕ) → (filled cs no_cells).top < q → heap_of (filled cs no_cells) q ≡ None
filled_low cs q above = filled_holds cs q ∙ high cs q above
  where
    high : (cs : List (ℕ × Cell)) (q : ℕ) → (filled cs no_cells).top < q → held_in cs q ≡ None
    high [] q above = refl
    high (c ∷ cs) q above =
        ap (λ b. if b then Some c.1 else held_in cs q) (is_other c.0 q (λ e. absurd (omega (arith, e, above)))) ∙ high cs q (omega (arith, above))

-- and the greatest is a word of 32 bits, where they can be placed
pub filled_small : (cs : List (ℕ × Cell)) → ((i : ℕ) (c : ℕ × Cell) → slice_get cs i ≡ Some c → c.0 < 2 ^ 32) → (filled cs no_cells).top < 2 ^ 32
filled_small [] most = omega arith
filled_small (c ∷ cs) most = let one = most 0 c refl in let rest = filled_small cs (λ i d e. most (suc i) d e) in omega (arith, one, rest)

-- a store that holds just these cells is that one
greatest_is : (cs : List (ℕ × Cell)) → greatest cs ≡ (filled cs no_cells).top
greatest_is [] = refl
greatest_is (c ∷ cs) = max_comm c.0 (greatest cs) ∙ ap (λ n. max n c.0) (greatest_is cs)

pub filled_is : (cs : List (ℕ × Cell)) (s : Stored) → IsFilled cs s → s ≡ filled cs no_cells
filled_is cs s f =
    let cells : s.cells ≡ (filled cs no_cells).cells = same_map nat_cmp_total nat_cmp-IsAntisymmetric s.cells (filled cs no_cells).cells (λ q. f.holds q ∙ sym (filled_holds cs q)) in
    let top : s.top ≡ (filled cs no_cells).top = f.top ∙ greatest_is cs in
    λ i. record { cells = cells i; top = top i }

-- so is the highest address of such a store
pub filled_top : (cs : List (ℕ × Cell)) (s : Stored) → IsFilled cs s → ((i : ℕ) (c : ℕ × Cell) → slice_get cs i ≡ Some c → c.0 < 2 ^ 32) → s.top < 2 ^ 32
filled_top cs s f most = let top = f.top ∙ greatest_is cs in let small = filled_small cs most in omega (arith, top, small)

-- what the cells represent the store represents
pub filled_represents : (cs : List (ℕ × Cell)) (P : (ℕ → Option Cell) → Type 0) → P (held_in cs) → P (heap_of (filled cs no_cells))
filled_represents cs P h = subst P (λ i q. sym (filled_holds cs q) i) h
