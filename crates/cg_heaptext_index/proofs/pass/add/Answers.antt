use Rattle.cg_heaptext_index.proofs.Joining.{joins_new}
use Rattle.cg_heaptext_index.proofs.pass.add.Goals as goal

pub returns-clause-joins : goal.returns-clause-joins
returns-clause-joins c =
    joins_new c.args.positions.now c.insert.new.self c.args.address c.args.at c.contains_key.result c.contains_key.ensures c.if-contains_key.false c.in_ok-insert.ensures.updates
