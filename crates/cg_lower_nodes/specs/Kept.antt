-- What lowering knows of the whole while a body grows.
use Rattle.std.specs.Prelude.{List}
use Rattle.cg_base.specs.Types.{Tau}
use Rattle.cg_ctree.specs.declared.tree.CTy.{CTy}
use Rattle.cg_lower_def.specs.CTypes.{c_type}
use Rattle.cg_lower_def.specs.Lowered.{Whole}
use Rattle.cg_lower_def.specs.Structs.{numbered_in}
use Rattle.cg_typing.specs.Instances.{Instance}
use Rattle.cg_lower_nodes.specs.declared.state.Lowering.{Lowering}

-- what stays as it is: the types of structs, the list of instances, and the arrow types of calls through function values
pub record Kept : Type 0 where
  pub table : List Tau
  pub list : List Instance
  pub arrows : List Tau

abbrev pub kept_of : Lowering → Kept
kept_of l = record { table = l.structs.table; list = l.places.list; arrows = l.places.arrows }

-- what lowering knows of the whole
abbrev pub whole_in : Kept → Whole
whole_in kept = record { numbered = numbered_in kept.table; arrows = kept.arrows; list = kept.list }

abbrev pub whole_of : Lowering → Whole
whole_of l = whole_in (kept_of l)

-- a type as C has it
abbrev pub c_type_in : Lowering → Tau → CTy
c_type_in l t = c_type (whole_of l).numbered t
