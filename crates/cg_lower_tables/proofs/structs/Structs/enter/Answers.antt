use Rattle.std.proofs.Common.{ap, ◌∙◌}
use Rattle.cg_lower_tables.proofs.Growth.{sound_stays, table_stays}
use Rattle.cg_lower_tables.proofs.structs.Structs.enter.Goals as goal

pub invariant_of-self : goal.invariant_of-self
invariant_of-self c = sound_stays c.self.inside.types c.enter.new.self c.enter.ensures.kept c.self.inside.rows.entries c.self.invariant

pub returns-clause-table : goal.returns-clause-table
returns-clause-table c = table_stays c.self.inside.types c.enter.new.self c.enter.ensures.kept c.self.inside.rows.entries c.self.invariant ∙ ap (λ s. s.table) c.self.view_is
