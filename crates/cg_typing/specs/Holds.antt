-- What a checked source holds, by name.
use Rattle.std.specs.Prelude.{ℕ, Option, Some, None, List, map, slice_get}
use Rattle.cg_core.specs.declared.derivation.Deriv.{Deriv}
use Rattle.cg_core.specs.declared.kernel.Kernel.{Kernel}
use Rattle.cg_core.specs.declared.term.Term.{Term}
use Rattle.cg_core.specs.declared.term.Typed.{Typed}
use Rattle.cg_core.specs.Kernels.{kernel_of}
use Rattle.cg_core_def.specs.Lawful.{IsLawfulKernel}
use Rattle.cg_typing.specs.declared.checked.Checked.{Checked}
use Rattle.cg_typing.specs.Kept.{AreKept, maybe_core, maybe_tree}

abbrev pub kernel_in : Checked → Kernel
kernel_in c = c.kernel

abbrev pub cores_in : Checked → List (Option (Term Typed))
cores_in c = c.cores

abbrev pub trees_in : Checked → List (Option Deriv)
trees_in c = c.derivs

-- what is kept for a function, if there is one and there is something
abbrev pub joined : {A : Type 0} → Option (Option A) → Option A
joined None = None
joined (Some kept) = kept

abbrev pub kept_at : {A : Type 0} → List (Option A) → ℕ → Option A
kept_at kept i = joined (slice_get kept i)

-- what is known of a checked source: its kernel is lawful, and each function with a body has a core of it and a derivation
pub record Holds (checked : Checked) : Type 0 where
  pub lawful : IsLawfulKernel (kernel_of (kernel_in checked))
  pub kept : ∥ AreKept (kernel_of (kernel_in checked)) (kernel_of (kernel_in checked)) (map maybe_core (cores_in checked)) (map maybe_tree (trees_in checked)) ∥₁

-- it is known of each
abbrev pub CheckedSourcesHold : Type 0
CheckedSourcesHold = (checked : Checked) → Holds checked
