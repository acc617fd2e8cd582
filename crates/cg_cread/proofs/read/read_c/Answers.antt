use Rattle.std.proofs.Common.{sym, ◌∙◌}
use Rattle.cg_cread_lexer.specs.Next.{lexeme}
use Rattle.cg_cread.specs.Views.{state_of}
use Rattle.cg_cread.proofs.Says.{keeps_going, unknown_kind, end_kind, token_kind, stands}
use Rattle.cg_cread.proofs.read.read_c.Goals as goal

pub returns-in-Unknown : goal.returns-in-Unknown
returns-in-Unknown c =
    let t = c.next-token.result in
    unknown_kind c.args.bytes.now c.loop-phase.lexer (state_of c.loop-phase.phase) c.loop-phase.invariant t.kind (lexeme t) c.next-token.new.self t.place
    c.in-Unknown.is c.next-token.ensures c.unexpected.result c.unexpected.ensures

pub returns-in-End : goal.returns-in-End
returns-in-End c =
    let t = c.next-token.result in
    end_kind c.args.bytes.now c.loop-phase.lexer (state_of c.loop-phase.phase) c.loop-phase.invariant t.kind (lexeme t) c.next-token.new.self t.place
    c.in-End.is c.next-token.ensures c.conclude.result c.conclude.ensures

pub returns-then-not-is_open : goal.returns-then-not-is_open
returns-then-not-is_open c =
    let t = c.next-token.result in
    let k = stands t.kind c.loop-phase.lexer c.next-token.new.self (lexeme t) t.place c.in_default.not-Unknown c.in_default.not-End c.next-token.ensures in
    token_kind c.args.bytes.now c.loop-phase.lexer (state_of c.loop-phase.phase) c.loop-phase.invariant (lexeme t) c.next-token.new.self t.place (state_of c.in_ok-phase-in_default.phase)
    k c.in_ok-phase-in_default.ensures (sym c.is_open.ensures ∙ c.if-not-is_open.true) c.unexpected-then-not-is_open.result c.unexpected-then-not-is_open.ensures

pub loop-phase-preserved : goal.loop-phase-preserved
loop-phase-preserved c =
    let t = c.next-token.result in
    let k = stands t.kind c.loop-phase.lexer c.next-token.new.self (lexeme t) t.place c.in_default.not-Unknown c.in_default.not-End c.next-token.ensures in
    keeps_going c.args.bytes.now c.loop-phase.lexer c.next-token.new.self (lexeme t) t.place (state_of c.loop-phase.phase) (state_of c.in_ok-phase-in_default.phase) c.loop-phase.invariant
    k c.in_ok-phase-in_default.ensures (sym c.is_open.ensures ∙ c.if-not-is_open.false)
