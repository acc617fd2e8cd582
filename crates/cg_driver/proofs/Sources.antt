-- An accepted source within its limits, made of what is known of its program and taken apart again.
use Rattle.std.proofs.Common.{◌≡◌, ℕ, ◌≤◌, List, length}
use Rattle.cg_core.specs.Kernels.{Function}
use Rattle.cg_driver.specs.Accepted.{HasKernel, IsAcceptedSource}
use Rattle.cg_driver.specs.Found.{source_limit}
use Rattle.cg_faults.specs.Fails.{AreTypesWithin}
use Rattle.cg_resolve_def.specs.Desugar.{functions_of}
use Rattle.cg_surface.specs.Programs.{Entry}
use Rattle.cg_typing.specs.Accepted.{IsAcceptedKernel}

pub accepted_source : (source : List ℕ) (p : List Entry) (functions : List Function) → length source ≤ source_limit → HasKernel source p → IsAcceptedKernel (functions_of p)
    → AreTypesWithin (functions_of p) → functions ≡ functions_of p → IsAcceptedSource source functions
accepted_source source p functions short resolved typed types kernel = record {
  accepted = record { program = p; spelled = resolved.spelled; names = resolved.names; typed = typed };
  limits = record { short = short; shallow = resolved.shallow; written = resolved.limits; types = types };
  kernel = kernel;
}

pub resolved_in : (source : List ℕ) (functions : List Function) (a : IsAcceptedSource source functions) → HasKernel source a.accepted.program
resolved_in source functions a = record { spelled = a.accepted.spelled; shallow = a.limits.shallow; names = a.accepted.names; limits = a.limits.written }
