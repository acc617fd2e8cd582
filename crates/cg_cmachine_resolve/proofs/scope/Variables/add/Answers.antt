use Rattle.std.proofs.Common.{subst, take_all}
use Rattle.cg_cmachine_resolve.specs.Scopes.{declared_as}
use Rattle.cg_cmachine_resolve.specs.Variables.{AreAdded}
use Rattle.cg_cmachine_resolve.proofs.Variables.{added_none, added_turn}
use Rattle.cg_cmachine_resolve.proofs.scope.Variables.add.Goals as goal

pub loop-decl-init : goal.loop-decl-init
loop-decl-init c = added_none c.args.structs.now c.args.self.now

pub loop-decl-preserved : goal.loop-decl-preserved
loop-decl-preserved c =
    added_turn c.args.structs.now c.args.decls.now c.loop-decl.decl-index c.decl-item.result c.args.self.now c.loop-decl.self c.declare.new.self c.loop-decl-test.true c.decl-item.is c.loop-decl.invariant
    c.in_ok-declare.ensures

pub returns : goal.returns
returns c =
    subst (λ ds. AreAdded c.args.structs.now (declared_as c.args.structs.now ds) c.args.self.now c.loop-decl.self) (take_all c.loop-decl.decl-index c.args.decls.now c.loop-decl-test.false)
    c.loop-decl.invariant
