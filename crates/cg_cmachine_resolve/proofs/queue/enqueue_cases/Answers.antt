use Rattle.std.proofs.Common.{[], map, refl, subst, sym, ◌∙◌, take_all}
use Rattle.cg_cmachine_resolve.specs.Lines.{AreCases}
use Rattle.cg_cmachine_resolve.specs.Queues.{HaveJoined, cases_weight, waiting}
use Rattle.cg_cmachine_resolve.proofs.Bodies.{waiting_long}
use Rattle.cg_cmachine_resolve.proofs.Grows.{cases_turn}
use Rattle.cg_cmachine_resolve.proofs.Queues.{joined_none, joins_turn}
use Rattle.cg_ctree.specs.Trees.{case_of, to_cases}
use Rattle.cg_cmachine_resolve.proofs.queue.enqueue_cases.Goals as goal

pub loop-arm-init : goal.loop-arm-init
loop-arm-init c = (λ w vs. rw c.new-cases.ensures.items tt, joined_none (cases_weight (to_cases [])) (waiting c.args.queue.now.items) (waiting c.args.queue.now.items) refl)

pub loop-arm-preserved : goal.loop-arm-preserved
loop-arm-preserved c = (
  λ w vs. cases_turn w vs (waiting c.loop-arm.queue.items) (waiting c.enqueue.new.queue.items) c.args.arms.now c.loop-arm.arm-index c.arm-item.result c.loop-arm.cases.items c.push.new.self.items c.as_slice.result.now
      c.in_ok-block.block c.loop-arm-test.true c.arm-item.is (c.loop-arm.invariant.0 w vs) c.in_ok-block.ensures.joins c.as_slice.ensures
      (c.in_ok-block.ensures.number ∙ sym (waiting_long c.loop-arm.queue.items)) c.in_ok-push.ensures.items,
  joins_turn c.args.arms.now c.loop-arm.arm-index c.arm-item.result (waiting c.args.queue.now.items) (waiting c.loop-arm.queue.items) (waiting c.enqueue.new.queue.items) c.as_slice.result.now c.loop-arm-test.true
      c.arm-item.is c.loop-arm.invariant.1 c.in_ok-block.ensures.joins c.as_slice.ensures,
)

pub returns-clause-cases : goal.returns-clause-cases
returns-clause-cases c = λ w vs.
    subst (λ cs. AreCases w vs (waiting c.loop-arm.queue.items) cs c.loop-arm.cases.items) (take_all c.loop-arm.arm-index c.args.arms.now c.loop-arm-test.false) (c.loop-arm.invariant.0 w vs)

pub returns-clause-joins : goal.returns-clause-joins
returns-clause-joins c =
    subst (λ cs. HaveJoined (cases_weight (to_cases (map case_of cs))) (waiting c.args.queue.now.items) (waiting c.loop-arm.queue.items))
    (take_all c.loop-arm.arm-index c.args.arms.now c.loop-arm-test.false) c.loop-arm.invariant.1
