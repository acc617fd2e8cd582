-- Types in boxes.
use Rattle.std.specs.declared.boxed.Box.{Box}
use Rattle.std.specs.declared.alloc.Global.{Global}
use Rattle.cg_base.specs.declared.ty.Ty.{Ty}
use Rattle.cg_base.specs.Types.{Tau, type_of}

abbrev pub in_box : Box Ty Global → Tau
in_box b = type_of b.value
