-- What the parts of `build`, and of `run` over instances, say, as the code has them.
use Rattle.std.specs.Prelude.{◌≡◌, ℕ, ◌≤◌, List, [], ◌∷◌, length, slice_get, Some}
use Rattle.cg_base.specs.Types.{Tau}
use Rattle.cg_core.specs.Kernels.{Function}
use Rattle.cg_inst.specs.Judged.{IsWithin, core_in}
use Rattle.cg_driver_laws.specs.Laws.{copies_in}
use Rattle.cg_driver_steps.specs.declared.status.Status.{Status}
use Rattle.cg_driver_steps.specs.Steps.{refuses, Settles}
use Rattle.cg_typing.specs.declared.checked.Checked.{Checked}
use Rattle.cg_typing.specs.Instances.{Instance}
use Rattle.cg_driver.specs.Commands.{Judges, certifiable, instanced}
use Rattle.cg_driver.specs.declared.build.Built.{Built}
use Rattle.cg_driver.specs.Entered.{instance_at}
use Rattle.cg_driver.specs.Found.{Found, certificate_limit, functions}
use Rattle.cg_driver.specs.Instanced.{IsMeant, certified_text, emitted}
use Rattle.cg_driver.specs.Judged.{functions_in, IsAllowed, IsEntryOf}

-- the list of instances of a checked source, which is within the limits
abbrev pub IsListed : Checked → List Instance → Type 0
IsListed checked list = IsWithin (functions_in checked) (core_in checked) list

-- what is said of functions whose instances, and whose certificate, pass a limit
abbrev pub RefusesInstances : List Function → Status → List ℕ → Type 0
RefusesInstances fs status text = (found : Found) → functions found ≡ fs → Settles Judges (instanced ∷ []) found (refuses status text)

abbrev pub RefusesCertificate : List Function → Status → List ℕ → Type 0
RefusesCertificate fs status text = (found : Found) → functions found ≡ fs → Settles Judges (certifiable ∷ []) found (refuses status text)

-- a state in which these instances of a checked source were found
pub record KeepsCopies (checked : Checked) (list : List Instance) (found : Found) : Type 0 where
  pub same : functions found ≡ functions_in checked
  pub copies : found.copies ≡ copies_in checked list

-- what is written of a checked source with these instances
pub record IsWritten (checked : Checked) (list : List Instance) (built : Built) : Type 0 where
  pub text : built.text.items ≡ emitted (copies_in checked list)
  pub meant : IsMeant (copies_in checked list)
  pub certificate : built.certificate.items ≡ certified_text (functions_in checked)
  pub brief : length (certified_text (functions_in checked)) ≤ certificate_limit
  pub counted : built.instances ≡ length list

-- an entry of a checked source with these instances, what it takes and gives, and the place of its instance
pub record CanRun (checked : Checked) (list : List Instance) (at place : ℕ) (argument result : Tau) : Type 0 where
  pub listed : IsListed checked list
  pub allowed : IsAllowed (functions_in checked) at
  pub ty : IsEntryOf (functions_in checked) at argument result
  pub stands : slice_get list place ≡ Some (instance_at at)
