use Rattle.std.proofs.Common.{[], get_or}
use Rattle.cg_resolve_names.proofs.ScopeSteps.{enter_names, enter_kept, get_or_same}
use Rattle.cg_resolve_names.proofs.scope.Scope.enter_all.Goals as goal

pub loop-name-preserved : goal.loop-name-preserved
loop-name-preserved c = (
  enter_names c.args.names.now c.loop-name.name-index (get_or c.args.names.now c.loop-name.name-index (record { ref_ptr = (0, 0); now = [] })) c.loop-name-test.true (get_or_same c.args.names.now c.loop-name.name-index (record { ref_ptr = (0, 0); now = [] }) (record { ref_ptr = (0, 0); now = [] }) c.loop-name-test.true) c.args.self.now c.loop-name.self c.enter.new.self c.in-Ok.field-0
      c.in-Ok.ensures.new c.in-Ok.ensures.names c.loop-name.invariant.0,
  enter_kept c.args.names.now c.loop-name.name-index (get_or c.args.names.now c.loop-name.name-index (record { ref_ptr = (0, 0); now = [] })) c.loop-name-test.true (get_or_same c.args.names.now c.loop-name.name-index (record { ref_ptr = (0, 0); now = [] }) (record { ref_ptr = (0, 0); now = [] }) c.loop-name-test.true) c.args.self.now c.loop-name.self c.enter.new.self c.in-Ok.field-0
      c.in-Ok.ensures.new c.in-Ok.ensures.names c.loop-name.invariant.1,
)
