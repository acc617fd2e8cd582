-- What the second checker's answer says of a kernel and a certificate.
use Rattle.std.specs.Prelude.{◌≡◌, List, Result, Ok, Err, Some, map, ⊤}
use Rattle.cg_base.specs.declared.limit.Limit.TheVariants.{Ty}
use Rattle.cg_cert.specs.Certificates.{certificate}
use Rattle.cg_cert.specs.declared.cert.Cert.{Cert}
use Rattle.cg_cert.specs.declared.fault.CertFault.{CertFault}
use Rattle.cg_cert.specs.declared.fault.CertFault.TheVariants.{C1, C2, C3, Limit, Memory}
use Rattle.cg_certcheck_def.specs.Events.{cert_events, first_failing}
use Rattle.cg_core.specs.declared.kernel.Kernel.{Kernel}
use Rattle.cg_core.specs.Kernels.{Function, kernel_of}
use Rattle.cg_faults.specs.Fails.{AreTypesWithin}
use Rattle.cg_typing.specs.declared.checked.Checked.{Checked}
use Rattle.cg_typing.specs.Holds.{kernel_in, cores_in, trees_in}
use Rattle.cg_typing.specs.Kept.{AreKept, maybe_core, maybe_tree}

-- what a certificate that is read can be at fault for: a node's row, a node or a name that is missing or surplus, or the limit on types
abbrev pub IsNodeFault : CertFault → Type 0
IsNodeFault (C1 n) = ⊥
IsNodeFault (C2 n) = ⊤
IsNodeFault (C3 n) = ⊤
IsNodeFault (Limit limit) = limit ≡ Ty
IsNodeFault Memory = ⊥

-- what a refusal says: it is the first test of the certificate that fails, unless memory is wanting
abbrev pub Refuses : List Function → Cert → CertFault → Type 0
Refuses functions cert Memory = ⊤
Refuses functions cert fault = IsNodeFault fault × (first_failing (cert_events functions cert) ≡ Some fault)

-- a certificate spells a derivation of the kernel, which is kept with the cores of its bodies, and no type of a node passes the limit
pub record IsRechecked (kernel : Kernel) (cert : Cert) (checked : Checked) : Type 0 where
  pub same : kernel_in checked ≡ kernel
  pub lists : cert ≡ certificate (kernel_of kernel) (map maybe_tree (trees_in checked))
  pub kept : AreKept (kernel_of kernel) (kernel_of kernel) (map maybe_core (cores_in checked)) (map maybe_tree (trees_in checked))
  pub within : AreTypesWithin (kernel_of kernel)

-- what the answer says
abbrev pub Rechecks : Kernel → Cert → Result Checked CertFault → Type 0
Rechecks kernel cert (Ok checked) = IsRechecked kernel cert checked
Rechecks kernel cert (Err fault) = Refuses (kernel_of kernel) cert fault
