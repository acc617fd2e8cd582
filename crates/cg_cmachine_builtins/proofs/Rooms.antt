-- What stands at an address, where cells are made and answers taken off.
use Rattle.std.proofs.Common.{rules, ◌≡◌, ℕ, zero, suc, ◌+◌, List, [], ◌∷◌, drop, slice_get, refl}
use Rattle.std.specs.FinMap.{gets}
use Rattle.std.specs.Option.{unwrap_or}
use Rattle.std.specs.declared.option.Option.TheVariants.{Some}
use Rattle.cg_cmachine_def.specs.Operands.{only}
use Rattle.cg_heap.specs.declared.cell.Fresh.{Fresh}
use Rattle.cg_heap.specs.declared.cell.Scalar.{Scalar}
use Rattle.cg_heap.specs.declared.cell.Scalar.TheVariants.{Unset}
use Rattle.cg_heap.specs.Stored.{Stored, cell_at, fresh_cell, with_fresh}

-- a cell that is made stands at its address
pub made_there : (f : Fresh) (m : Stored) (p : ℕ) → p ≡ m.top + 1 → cell_at (with_fresh f m) p ≡ Some (fresh_cell f)
made_there f m p e = grind (gets, rules)

-- and leaves the others as they were
pub made_beside : (f : Fresh) (m : Stored) (p : ℕ) → (p ≡ m.top + 1 → ⊥) → cell_at (with_fresh f m) p ≡ cell_at m p
made_beside f m p h = grind (gets, rules)

-- the slot that a place names
pub slot_at : (us : List Scalar) (at : ℕ) → only (drop at us) ≡ unwrap_or (slice_get us at) Unset
slot_at [] zero = refl
slot_at [] (suc at) = refl
slot_at (u ∷ us) zero = refl
slot_at (u ∷ us) (suc at) = slot_at us at

pub ruleset room_steps = (made_there, made_beside, slot_at)
