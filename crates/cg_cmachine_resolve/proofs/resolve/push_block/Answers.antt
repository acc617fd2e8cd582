use Rattle.std.proofs.Common.{◌≡◌, ◌∙◌, ap, arith, get_or, length}
use Rattle.cg_cmachine_resolve.specs.Variables.{scope_at}
use Rattle.cg_cmachine_resolve.proofs.Bodies.{next_block}
use Rattle.cg_cmachine_resolve.proofs.resolve.push_block.Goals as goal

pub returns : goal.returns
returns c =
    let here : c.len.result ≡ length c.args.blocks.now.items = omega (arith, c.len.ensures, c.args.blocks.now.ok.0) in
    next_block (λ lines. lines.items) c.args.setting.now.whole (scope_at c.args.setting.now) c.args.queue.now.items c.block.new.queue.items c.args.blocks.now.items c.push.new.self.items c.index-stmts.result.now
    c.in_ok-lines.lines c.requires.waits (c.index-stmts.ensures ∙ ap (λ n. get_or c.args.queue.now.items n c.index-stmts.result.now) here) c.in_ok-lines.ensures.joins c.in_ok-lines.ensures.lines
    c.in_ok-push.ensures.items
