use Rattle.std.proofs.Common.{◌≡◌, ◌++◌, take, zero}
use Rattle.cg_lower_def.specs.Structs.{numbered_in}
use Rattle.cg_lower_tables.specs.Tables.{declared_from}
use Rattle.cg_lower_tables.proofs.structs.Structs.declare.Given as goal

abbrev pub invariant-loop-i : goal.invariant-loop-i
invariant-loop-i l = l.decls ≡ l.fn.decls ++ declared_from l.self.types (numbered_in l.self.table) l.letter zero (take l.i l.members)
