use Rattle.std.proofs.Common.{rules}
use Rattle.cg_resolve_declared.specs.Tables.{has}
use Rattle.cg_resolve_declared.proofs.Tables.{has_more}
use Rattle.cg_resolve_declared.proofs.keep.add.Goals as goal

pub returns-clause-added : goal.returns-clause-added
unfolding has
returns-clause-added c = search rules

pub returns-clause-names : goal.returns-clause-names
returns-clause-names c = has_more c.args.set.now c.insert.new.self c.args.name c.in_ok-insert.ensures.updates
