use Rattle.std.proofs.Common.{subst}
use Rattle.cg_lower_def.specs.Structs.{IsTable}
use Rattle.cg_lower_tables.proofs.Rows.{is_table}
use Rattle.cg_lower_tables.proofs.structs.Structs.is_table.Goals as goal

pub returns : goal.returns
returns c = subst (λ s. IsTable s.table) c.self.view_is (is_table c.self.inside.types c.self.inside.rows.entries c.self.invariant)
