-- Sources without abstract functions.
use Rattle.std.specs.Prelude.{◌≡◌, ℕ, List, None, Some, slice_get}
use Rattle.cg_core.specs.Kernels.{Function}

-- every function has a body
abbrev pub HasBodies : List Function → Type 0
HasBodies functions = (i : ℕ) (f : Function) → slice_get functions i ≡ Some f → f.body ≡ None → ⊥
