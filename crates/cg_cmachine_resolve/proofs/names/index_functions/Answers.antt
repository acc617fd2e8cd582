use Rattle.cg_cmachine_resolve.proofs.Indexes.{named_turn}
use Rattle.cg_cmachine_resolve.proofs.names.index_functions.Goals as goal

pub loop-at-preserved : goal.loop-at-preserved
loop-at-preserved c =
    named_turn (λ f. f.name) c.args.functions.now c.loop-at.at c.index-functions-at.result c.bytes.result.now c.loop-at.names c.add_name.new.table c.loop-at-test.true c.index-functions-at.is c.bytes.ensures c.loop-at.invariant c.in_ok-add_name.ensures
