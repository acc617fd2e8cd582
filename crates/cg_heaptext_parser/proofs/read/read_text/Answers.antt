use Rattle.std.proofs.Common.{sym, ap, ◌∙◌}
use Rattle.cg_heaptext_lexer.specs.Next.{lexeme}
use Rattle.cg_heaptext_parser.specs.Outline as outline
use Rattle.cg_heaptext_parser.specs.Views.{outline_of}
use Rattle.cg_heaptext_parser.proofs.Says.{keeps_going, unknown_kind, end_kind, token_kind, stands}
use Rattle.cg_heaptext_parser.proofs.read.read_text.Goals as goal

pub returns-in-Unknown : goal.returns-in-Unknown
returns-in-Unknown c =
    let t = c.next-token.result in
    unknown_kind c.args.bytes.now c.loop-reading.lexer (outline_of c.loop-reading.reading) c.loop-reading.invariant t.kind (lexeme t) c.next-token.new.self c.in-Unknown.is c.next-token.ensures

pub returns-in-End : goal.returns-in-End
returns-in-End c =
    let t = c.next-token.result in
    end_kind c.args.bytes.now c.loop-reading.lexer (outline_of c.loop-reading.reading) c.loop-reading.invariant t.kind (lexeme t) c.next-token.new.self
    c.in-End.is c.next-token.ensures c.conclude.result c.conclude.ensures

pub returns-then-not-is_open : goal.returns-then-not-is_open
returns-then-not-is_open c =
    let t = c.next-token.result in
    let k = stands t.kind c.loop-reading.lexer c.next-token.new.self (lexeme t) c.in_default.not-Unknown c.in_default.not-End c.next-token.ensures in
    token_kind c.args.bytes.now c.loop-reading.lexer (outline_of c.loop-reading.reading) c.loop-reading.invariant (lexeme t) c.next-token.new.self (outline_of c.in_ok-reading-in_default.reading)
    k (c.in_ok-reading-in_default.ensures ∙ ap (outline.step (outline_of c.loop-reading.reading)) c.symbol_at.ensures) (sym c.is_open.ensures ∙ c.if-not-is_open.true)

pub loop-reading-preserved : goal.loop-reading-preserved
loop-reading-preserved c =
    let t = c.next-token.result in
    let k = stands t.kind c.loop-reading.lexer c.next-token.new.self (lexeme t) c.in_default.not-Unknown c.in_default.not-End c.next-token.ensures in
    keeps_going c.args.bytes.now c.loop-reading.lexer c.next-token.new.self (lexeme t) (outline_of c.loop-reading.reading) (outline_of c.in_ok-reading-in_default.reading) c.loop-reading.invariant
    k (c.in_ok-reading-in_default.ensures ∙ ap (outline.step (outline_of c.loop-reading.reading)) c.symbol_at.ensures) (sym c.is_open.ensures ∙ c.if-not-is_open.false)
