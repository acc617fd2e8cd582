use Rattle.std.proofs.Common.{◌<◌, ◌≤◌, arith, length}
use Rattle.cg_cmachine_resolve.specs.Variables.{scope_at}
use Rattle.cg_cmachine_resolve.proofs.Bodies.{done_last, done_next, done_none, first_waits, weight_next}
use Rattle.cg_cmachine_resolve.specs.Queues.{waiting}
use Rattle.cg_cmachine_resolve.proofs.resolve.blocks.Goals as goal

pub loop-alloc-init : goal.loop-alloc-init
loop-alloc-init c =
    rw c.new-blocks.ensures.items
    (done_none c.args.setting.now.whole (scope_at c.args.setting.now) (waiting c.push.new.self.items) c.args.body.now.stmts
    (first_waits c.new-queue.result.items c.push.new.self.items c.as_slice.result c.args.body.now.stmts c.new-queue.ensures.items c.in_ok-push.ensures.items c.as_slice.ensures))

pub loop-alloc-smaller : goal.loop-alloc-smaller
loop-alloc-smaller c =
    let less : length c.loop-alloc.blocks.items < length c.loop-alloc.queue.items =
    omega (arith, c.loop-alloc-test.true, c.len.ensures, c.len-in-loop-alloc.ensures, c.loop-alloc.blocks.ok.0, c.loop-alloc.queue.ok.0) in
    weight_next (λ lines. lines.items) c.args.setting.now.whole (scope_at c.args.setting.now) c.loop-alloc.queue.items c.push_block.new.queue.items c.loop-alloc.blocks.items c.push_block.new.blocks.items less
    c.in_ok-push_block.ensures

pub loop-alloc-preserved : goal.loop-alloc-preserved
loop-alloc-preserved c =
    let less : length c.loop-alloc.blocks.items < length c.loop-alloc.queue.items =
    omega (arith, c.loop-alloc-test.true, c.len.ensures, c.len-in-loop-alloc.ensures, c.loop-alloc.blocks.ok.0, c.loop-alloc.queue.ok.0) in
    done_next (λ lines. lines.items) c.args.setting.now.whole (scope_at c.args.setting.now) c.loop-alloc.queue.items c.push_block.new.queue.items c.args.body.now.stmts c.loop-alloc.blocks.items
    c.push_block.new.blocks.items c.loop-alloc.invariant less c.in_ok-push_block.ensures

pub returns : goal.returns
returns c =
    let most : length c.loop-alloc.queue.items ≤ length c.loop-alloc.blocks.items =
    omega (arith, c.loop-alloc-test.false, c.len.ensures, c.len-in-loop-alloc.ensures, c.loop-alloc.blocks.ok.0, c.loop-alloc.queue.ok.0) in
    done_last (λ lines. lines.items) c.args.setting.now.whole (scope_at c.args.setting.now) c.loop-alloc.queue.items c.args.body.now.stmts c.loop-alloc.blocks.items c.loop-alloc.invariant most
