-- The tests on occurrences tell what their conditions say, at each site of a lawful body; so kernels are accepted or at fault, and the
-- limit on types is judged at each site.
use Rattle.cg_faults_laws.specs.Laws.{KernelsAreAcceptedOrAtFault, TypesAreWithin}
use Rattle.cg_faults_laws.proofs.BranchRows.{tells_branches}
use Rattle.cg_faults_laws.proofs.Flags.{root_stands, part_stands}
use Rattle.cg_faults_laws.proofs.Kernel as kernel
use Rattle.cg_faults_laws.proofs.ScopeRows.{tells_scope, tells_argument}
use Rattle.cg_faults_laws.proofs.TouchRows.{tells_variable, tells_observers}

pub kernels_are_accepted_or_at_fault : KernelsAreAcceptedOrAtFault
kernels_are_accepted_or_at_fault =
    kernel.kernels_are_accepted_or_at_fault (λ functions f body types_in lawful. record {
      root_stands = root_stands functions f body types_in lawful;
      part_stands = part_stands functions f body types_in lawful;
      tells_variable = tells_variable functions f body types_in lawful;
      tells_observers = tells_observers functions f body types_in lawful;
      tells_scope = tells_scope functions f body types_in lawful;
      tells_argument = tells_argument functions f body types_in lawful;
      tells_branches = tells_branches functions f body types_in lawful;
    })

pub types_are_within : TypesAreWithin
types_are_within = kernel.types_are_within kernels_are_accepted_or_at_fault
