use Rattle.std.proofs.Common.{arith, sym, ◌∙◌}
use Rattle.cg_inst.specs.Views.{instance_of}
use Rattle.cg_inst.proofs.MakeSteps.{not_yet, nowhere}
use Rattle.cg_inst.proofs.list.place_of.Goals as goal
use Rattle.cg_base.proofs.Counts.{no_steps as never}

pub loop-at-preserved : goal.loop-at-preserved
loop-at-preserved c =
    not_yet instance_of c.args.list.now c.loop-at.at c.index-list-at.result (instance_of c.args.instance.now) c.loop-at-test.true c.index-list-at.is
    (λ e. never (sym c.if-same.false ∙ c.same.ensures.1 e)) c.loop-at.invariant

pub returns : goal.returns
returns c = nowhere instance_of c.args.list.now c.loop-at.at (instance_of c.args.instance.now) (omega (arith, c.loop-at-test.false)) c.loop-at.invariant
