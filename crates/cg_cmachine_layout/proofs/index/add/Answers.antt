use Rattle.cg_cmachine_layout.proofs.Names.{add_new, add_old}
use Rattle.cg_cmachine_layout.proofs.index.add.Goals as goal

pub returns-in_ok-insert : goal.returns-in_ok-insert
returns-in_ok-insert c =
    add_new c.args.name c.args.names.now c.insert.new.self c.args.at c.in-Ok.place c.contains_key.result c.contains_key.ensures c.if-not-contains_key.true c.in-Ok.ensures.1 c.in_ok-insert.ensures.updates

pub returns-else-not-contains_key : goal.returns-else-not-contains_key
returns-else-not-contains_key c = add_old c.args.name.now c.args.names.now c.args.at c.contains_key.result c.contains_key.ensures c.if-not-contains_key.false
