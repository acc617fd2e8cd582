use Rattle.std.proofs.Common.{rules}
use Rattle.cg_resolve_declared.specs.Tables.{has}
use Rattle.cg_resolve_takes.proofs.head.Fields.has.Goals as goal

pub returns-in-Written : goal.returns-in-Written
unfolding has
returns-in-Written c = search rules
