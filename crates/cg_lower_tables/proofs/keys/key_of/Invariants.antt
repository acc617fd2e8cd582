use Rattle.std.proofs.Common.{◌≡◌, [], Some, drop, map, slice_get}
use Rattle.cg_base.specs.Types.{type_of}
use Rattle.cg_kinds.specs.Kinds.{subst}
use Rattle.cg_inst_types.specs.Listings.{listing}
use Rattle.cg_inst_types.specs.Places.{Keeps}
use Rattle.cg_lower_tables.proofs.keys.key_of.Given as goal

abbrev pub invariant-loop-i : goal.invariant-loop-i
invariant-loop-i l = Keeps l.fn.table l.table × (slice_get l.table l.list ≡ Some (listing (map (subst []) (map type_of (drop l.i l.items)))))
