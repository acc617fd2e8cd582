use Rattle.std.proofs.Common.{◌≡◌, take}
use Rattle.cg_lower_def.specs.Structs.{structs_in}
use Rattle.cg_lower_tables.proofs.structs.Structs.declarations.Given as goal

abbrev pub invariant-loop-number : goal.invariant-loop-number
invariant-loop-number l = l.structs ≡ take l.number (structs_in l.self.table)
