use Rattle.std.proofs.Common.{refl}
use Rattle.cg_ctext.proofs.Waiting.{on_ok, begins_else}
use Rattle.cg_ctext.proofs.statement.begin_else.Goals as goal

pub returns-clause-prints : goal.returns-clause-prints
returns-clause-prints c =
    on_ok c.push_two.result c.push_two.ensures
    (λ e. begins_else c.args.level c.args.text.now.items c.on_line.new.text.items c.args.tasks.now.items _ c.push_two.new.tasks.items c.inner_level.result c.inner_level.ensures
    c.args.stmts c.in_ok-on_line.ensures refl e)
