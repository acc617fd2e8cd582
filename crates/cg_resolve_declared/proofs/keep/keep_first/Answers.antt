use Rattle.cg_resolve_declared.specs.Tables.{find}
use Rattle.cg_resolve_declared.proofs.Tables.{kept_new, absent_from}
use Rattle.cg_resolve_declared.proofs.keep.keep_first.Goals as goal

pub returns-in_ok-insert-clause-kept : goal.returns-in_ok-insert-clause-kept
returns-in_ok-insert-clause-kept g c =
    kept_new c.args.table.now c.insert.new.self c.args.name c.args.value (absent_from (find c.args.table.now c.args.name.now) c.contains_key.result c.contains_key.ensures c.if-not-contains_key.true) c.in_ok-insert.ensures.updates
