-- What lowering looks up by name: the instances, and the arrow types of calls through function values (docs/LANGUAGE.md, "The C of instances").
use Rattle.std.specs.Prelude.{List, [], ◌∷◌, ◌++◌, if◌then◌else◌, map}
use Rattle.std.specs.List.{list_any}
use Rattle.cg_base.specs.declared.ty.Ty.{Ty}
use Rattle.cg_base.specs.Same.{same_type}
use Rattle.cg_base.specs.Types.{Tau, type_of}
use Rattle.cg_inst.specs.declared.instance.Instance.{Instance as Held}
use Rattle.cg_inst.specs.Views.{instance_of}
use Rattle.cg_typing.specs.Instances.{Instance}

-- what lowering looks up: the list of instances, and the arrow types of calls through function values
pub record Known : Type 0 where
  pub list : List Instance
  pub arrows : List Tau

abbrev pub known_of : List Held → List Ty → Known
known_of list arrows = record { list = map instance_of list; arrows = map type_of arrows }

-- one arrow type more, if it isn't among them
abbrev pub with_arrow : List Tau → Tau → List Tau
with_arrow arrows t = if list_any (λ u. same_type u t) arrows then arrows else arrows ++ t ∷ []
