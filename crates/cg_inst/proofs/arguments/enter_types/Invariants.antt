use Rattle.std.proofs.Common.{◌≡◌, Some, drop, map, slice_get}
use Rattle.cg_core.specs.Terms.{arg_of}
use Rattle.cg_kinds.specs.Kinds.{subst}
use Rattle.cg_inst_types.specs.Layers.{types_at}
use Rattle.cg_inst_types.specs.Listings.{listing}
use Rattle.cg_inst_types.specs.Places.{Keeps}
use Rattle.cg_typing.specs.Functions.{arg_types}
use Rattle.cg_inst.proofs.arguments.enter_types.Given as goal

abbrev pub invariant-loop-i : goal.invariant-loop-i
invariant-loop-i l =
    Keeps l.fn.table l.table
    × (slice_get l.table l.list ≡ Some (listing (map (subst (types_at l.fn.table l.types)) (arg_types (map arg_of (drop l.i l.items))))))
