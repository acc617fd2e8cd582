use Rattle.std.proofs.Common.{refl}
use Rattle.cg_ctext.proofs.Waiting.{on_ok, begins_case}
use Rattle.cg_ctext.proofs.statement.begin_case.Goals as goal

pub returns-clause-prints : goal.returns-clause-prints
returns-clause-prints c =
    on_ok c.push_two.result c.push_two.ensures
    (λ e. begins_case c.args.level c.args.text.now.items c.case_line.new.text.items c.args.tasks.now.items _ c.push_two.new.tasks.items c.inner_level.result c.inner_level.ensures
    c.args.case.now c.as_slice.result c.as_slice.ensures c.in_ok-case_line.ensures refl e)
