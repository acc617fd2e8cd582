use Rattle.std.proofs.Common.{drop, refl, arith}
use Rattle.cg_heaptext_lexer.specs.Next.{lexeme}
use Rattle.cg_heaptext_values.specs.Turns.{layers_of}
use Rattle.cg_heaptext_values.proofs.Loops.{dropped, drop_one, none_dropped}
use Rattle.cg_heaptext_values.proofs.layers.behind_layers.Goals as goal

pub loop-left-init : goal.loop-left-init
loop-left-init c = dropped c.args.lexer.now c.copy-inner.result c.layers-left.result c.copy-inner.ensures c.layers-left.ensures

pub loop-left-preserved : goal.loop-left-preserved
loop-left-preserved c =
    let t = c.next.result in
    drop_one t.kind t.text.now c.args.lexer.now c.loop-left.inner c.next.new.self (lexeme t) c.loop-left.left (λ ts. drop (layers_of ts) ts) refl (omega (arith, c.loop-left-test.true)) c.loop-left.invariant c.next.ensures

pub returns : goal.returns
returns c ts b = none_dropped c.args.lexer.now c.loop-left.inner (λ ts. drop (layers_of ts) ts) c.loop-left.left (omega (arith, c.loop-left-test.false)) c.loop-left.invariant ts b
