-- What a part of a body comes to.
use Rattle.cg_base.specs.Types.{type_of}
use Rattle.cg_check_def.specs.Pass.{Got}
use Rattle.cg_core.specs.Derivations.{derivation_of}
use Rattle.cg_core.specs.Kernels.{the_core}
use Rattle.cg_check_nodes.specs.declared.got.Got.{Got as Got'}

abbrev pub got_of : Got' → Got
got_of g = record { ty = type_of g.core.value.note.ty; core = the_core g.core.value; tree = derivation_of g.tree; uses = g.uses.items }
