-- The law of the types of entries.
use Rattle.std.specs.Prelude.{◌≡◌, ℕ, true, List, [], slice_get, Some}
use Rattle.cg_core.specs.Kernels.{Function}
use Rattle.cg_surface.specs.Programs.{Entry}
use Rattle.cg_resolve_def.specs.Desugar.{functions_of, NamesStand, WithinLimits}
use Rattle.cg_resolve_def.specs.Shaped.{IsShaped}
use Rattle.cg_typing.specs.Accepted.{IsAcceptedKernel}
use Rattle.cg_typing.specs.Parts.{given_by, taken_by}
use Rattle.cg_driver_entry.specs.Types.{is_first_order as is_entry_type}
use Rattle.cg_driver_entry.specs.Typed.{HasEntryType}

-- In an accepted program of a shape that the grammar gives, within the limits of what is written, a function without type variables whose type
-- is first order takes and gives types that hold neither type variables nor functions nor users' abstract types, each of few nodes. Without the
-- shape this is false, since a variant type without alternatives isn't lawful (proofs/Shapeless.antt).
abbrev pub EntriesHaveTypes : Type 0
EntriesHaveTypes = (p : List Entry) → IsShaped p → NamesStand p → WithinLimits p → IsAcceptedKernel (functions_of p)
    → (at : ℕ) (f : Function) → slice_get (functions_of p) at ≡ Some f → f.vars ≡ [] → is_entry_type f.ty.ty ≡ true
    → HasEntryType f (taken_by f.ty.ty) (given_by f.ty.ty)
