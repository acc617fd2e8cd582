-- The faults of the parts, as faults of the whole.
use Rattle.cg_base.specs.declared.limit.Limit.TheVariants.{Ty, Depth}
use Rattle.cg_resolve_names.specs.declared.fault.NamingFault.{NamingFault}
use Rattle.cg_resolve_names.specs.declared.fault.NamingFault.TheVariants as naming
use Rattle.cg_resolve.specs.declared.fault.Fault.{Fault}
use Rattle.cg_resolve.specs.declared.fault.Fault.TheVariants.{N1, N2, N4, N5, Limit, Memory}
use Rattle.cg_resolve_takes.specs.declared.fault.TakeFault.{TakeFault}
use Rattle.cg_resolve_takes.specs.declared.fault.TakeFault.TheVariants as takes
use Rattle.cg_resolve_sites.specs.declared.fault.TermFault.{TermFault}
use Rattle.cg_resolve_sites.specs.declared.fault.TermFault.TheVariants as terms
use Rattle.cg_resolve_written.specs.declared.oversize.Oversize.{Oversize}
use Rattle.cg_resolve_written.specs.declared.oversize.Oversize.TheVariants as sizes

abbrev pub of_naming : NamingFault → Fault
of_naming (naming.N1 p) = N1 p
of_naming (naming.N2 p) = N2 p
of_naming (naming.N4 p) = N4 p
of_naming naming.Memory = Memory

abbrev pub of_take : TakeFault → Fault
of_take (takes.N5 p) = N5 p
of_take takes.Memory = Memory

abbrev pub of_oversize : Oversize → Fault
of_oversize sizes.TooLarge = Limit Ty
of_oversize sizes.Memory = Memory

abbrev pub of_term : TermFault → Fault
of_term terms.TooDeep = Limit Depth
of_term terms.Memory = Memory
