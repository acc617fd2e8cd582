-- What the checker's answer says of a kernel.
use Rattle.std.specs.Prelude.{◌≡◌, Result, Ok, Err, List, map, ⊤}
use Rattle.cg_base.specs.declared.limit.Limit.TheVariants.{Ty}
use Rattle.cg_base.specs.declared.place.Place.{Place}
use Rattle.cg_check_def.specs.Kept.{function_core, function_tree}
use Rattle.cg_core.specs.declared.kernel.Kernel.{Kernel}
use Rattle.cg_core.specs.Kernels.{Function, kernel_of}
use Rattle.cg_faults.specs.Fails.{AreTypesWithin, Fails}
use Rattle.cg_faults.specs.Rule.{rule, type_limit}
use Rattle.cg_typing.specs.Accepted.{IsAcceptedKernel}
use Rattle.cg_typing.specs.declared.checked.Checked.{Checked}
use Rattle.cg_typing.specs.Holds.{kernel_in, cores_in, trees_in}
use Rattle.cg_typing.specs.Kept.{AreKept, maybe_core, maybe_tree}
use Rattle.cg_check.specs.declared.refusal.Refusal.{Refusal}
use Rattle.cg_check.specs.declared.refusal.Refusal.TheVariants.{Rule as Broken, Limit as Beyond, Memory}

-- what a refusal says of a kernel: it is the one fault by the definition in its own words, unless memory is wanting
abbrev pub Refuses : List Function → Refusal → Type 0
Refuses functions (Broken broken place) = Fails functions (rule broken) place
Refuses functions (Beyond limit) = (limit ≡ Ty) × ((place : Place) × Fails functions type_limit place)
Refuses functions Memory = ⊤

-- a kernel that is accepted is kept, with the core of each body and its derivation, which has the occurrence marks
pub record IsChecked (kernel : Kernel) (checked : Checked) : Type 0 where
  pub accepted : IsAcceptedKernel (kernel_of kernel)
  pub within : AreTypesWithin (kernel_of kernel)
  pub same : kernel_in checked ≡ kernel
  pub cores : map maybe_core (cores_in checked) ≡ map (function_core (kernel_of kernel)) (kernel_of kernel)
  pub trees : map maybe_tree (trees_in checked) ≡ map (function_tree (kernel_of kernel)) (kernel_of kernel)
  -- these are cores that the rules derive
  pub kept : AreKept (kernel_of kernel) (kernel_of kernel) (map maybe_core (cores_in checked)) (map maybe_tree (trees_in checked))

-- what the checker's answer says of a kernel: it is accepted and kept, or refused by its one fault, unless memory is wanting
abbrev pub Judges : Kernel → Result Checked Refusal → Type 0
Judges kernel (Ok checked) = IsChecked kernel checked
Judges kernel (Err refusal) = Refuses (kernel_of kernel) refusal
