-- Instances are refined: the laws of the library, of iterators, and of functions that a table knows, put in.
use Rattle.cg_refine_laws.proofs.Iterators.{iterators_are_refined}
use Rattle.cg_refine_laws.proofs.Known.{known_functions_are_refined}
use Rattle.cg_refine_laws.proofs.Library.{library_is_refined}
use Rattle.cg_refine_laws.proofs.Whole.{instances_are_refined as over_laws}
use Rattle.cg_refine_laws.specs.Laws.{InstancesAreRefined}

pub instances_are_refined : InstancesAreRefined
instances_are_refined = over_laws library_is_refined iterators_are_refined known_functions_are_refined
