use Rattle.std.proofs.Common.{◌≡◌, false, map, take, IsTrue}
use Rattle.cg_base.specs.Types.{part_of, to_parts}
use Rattle.cg_lower_def.specs.Structs.{AreCovered}
use Rattle.cg_inst_types.specs.Places.{Keeps}
use Rattle.cg_lower_tables.specs.Added.{added_parts}
use Rattle.cg_lower_tables.specs.Tables.{AreMembers}
use Rattle.cg_lower_tables.proofs.structs.Structs.+visit.Given as goal

abbrev pub invariant-visit_parts-loop-part : goal.invariant-visit_parts-loop-part
invariant-visit_parts-loop-part l =
    AreMembers l.self.types l.members (to_parts (map part_of (take l.part-index l.part-items)))
    × (IsTrue l.adds → AreCovered l.self.table (to_parts (map part_of (take l.part-index l.part-items))))
    × Keeps l.fn.self.types l.self.types
    × Keeps l.fn.self.table l.self.table
    × (l.adds ≡ false → l.self.table ≡ l.fn.self.table)
    × (IsTrue l.adds → l.self.table ≡ added_parts (to_parts (map part_of (take l.part-index l.part-items))) l.fn.self.table)
