use Rattle.cg_cgen.proofs.Dispatching.{no_cases}
use Rattle.cg_cgen.proofs.switches.body.Goals as goal

pub returns-then-tags-eq0 : goal.returns-then-tags-eq0
returns-then-tags-eq0 c =
    no_cases c.args.ty.now c.args.tags.now (record { locals = c.new.result; stmts = c.new-stmts.result }) c.if-tags-eq0.true c.new.ensures c.new-stmts.ensures
