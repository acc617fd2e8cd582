use Rattle.cg_cmachine_resolve.proofs.Indexes.{joins_new, joins_old}
use Rattle.cg_cmachine_resolve.proofs.index.add_name.Goals as goal

pub returns-then-contains_key : goal.returns-then-contains_key
returns-then-contains_key c = joins_old c.args.name.now c.args.at c.args.table.now c.contains_key.result c.contains_key.ensures c.if-contains_key.true

pub returns : goal.returns
returns c =
    joins_new c.args.name c.args.at c.args.table.now c.insert.new.self c.contains_key.result c.contains_key.ensures c.if-contains_key.false c.in_ok-insert.ensures.updates
