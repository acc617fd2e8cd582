use Rattle.std.proofs.Common.{◌≡◌, map, take, zero}
use Rattle.cg_base.specs.Types.{part_of}
use Rattle.cg_lower_tables.specs.Tables.{variables_from}
use Rattle.cg_lower_tables.proofs.layer.variables.Given as goal

abbrev pub invariant-loop-i : goal.invariant-loop-i
invariant-loop-i l = map part_of l.parts ≡ variables_from zero (take l.i l.members)
