use Rattle.std.proofs.Common.{take}
use Rattle.std.specs.List.{AllZip}
use Rattle.cg_cmachine_layout.specs.Tables.{IsRow, slices}
use Rattle.cg_cmachine_layout.proofs.sizes.rows.Given as goal

abbrev pub invariant-loop-members : goal.invariant-loop-members
invariant-loop-members l = AllZip (IsRow l.names l.sizes) (slices (take l.members-index l.structs)) l.rows.items
