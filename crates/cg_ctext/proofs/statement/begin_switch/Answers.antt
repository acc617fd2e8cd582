use Rattle.std.proofs.Common.{codes, refl}
use Rattle.cg_ctext.proofs.Waiting.{on_both, begins_switch, grows, test_length}
use Rattle.cg_ctext.proofs.statement.begin_switch.Goals as goal

pub returns-clause-prints : goal.returns-clause-prints
returns-clause-prints c =
    on_both c.opening.result c.opening.ensures.line c.opening.ensures.tasks
    (λ e f. begins_switch c.args.level c.args.text.now.items c.opening.new.text.items c.args.tasks.now.items _ c.opening.new.tasks.items c.inner_level.result c.inner_level.ensures
    c.args.tested.now c.args.cases e refl f)

pub returns-clause-grows : goal.returns-clause-grows
returns-clause-grows c =
    on_both c.opening.result c.opening.ensures.line c.opening.ensures.tasks
    (λ e f. grows c.args.text.now.items c.opening.new.text.items _ c.args.tasks.now.items _ c.opening.new.tasks.items _ _ e (test_length c.args.level (codes "switch (") c.args.tested.now) refl f)
