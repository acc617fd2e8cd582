use Rattle.std.proofs.Common.{sym, ◌∙◌}
use Rattle.cg_lexer.specs.Tokens.{lexeme}
use Rattle.cg_lexer.proofs.Division.{takes, shorter}
use Rattle.cg_parser_def.specs.Held.{bounded_items}
use Rattle.cg_parser.specs.Views.{reading_state, is_wrong}
use Rattle.cg_parser.proofs.Says.{going, keeps_going, fault_answers, token_answers, bar_answers, finish_answers}
use Rattle.cg_parser.proofs.Whole.{plain, held, laws, follows}
use Rattle.cg_parser.proofs.Wrong.{wrong_is, wrong_told}
use Rattle.cg_parser.proofs.program.parse.Goals as goal

pub returns-in_err-token : goal.returns-in_err-token
returns-in_err-token c =
    fault_answers plain bounded_items held laws follows is_wrong wrong_is wrong_told c.args.bytes.now c.loop-reading.lexer c.next.new.self _ c.loop-reading.invariant
    c.in_err-token.field-0.0 c.in_err-token.ensures c.from_residual.result c.from_residual.ensures.1

pub returns-in-End : goal.returns-in-End
returns-in-End c =
    finish_answers plain bounded_items held laws follows is_wrong wrong_is wrong_told c.args.bytes.now c.loop-reading.lexer c.next.new.self _ c.loop-reading.invariant
    c.in_ok-token.token.kind (lexeme c.in_ok-token.token) c.in-End.is c.in_ok-token.ensures c.conclude.result c.conclude.ensures

pub returns-then-is_wrong_bar : goal.returns-then-is_wrong_bar
returns-then-is_wrong_bar c =
    let k = takes c.in_ok-token.token.kind c.loop-reading.lexer c.next.new.self (lexeme c.in_ok-token.token) c.in_default.not-End c.in_ok-token.ensures in
    bar_answers plain bounded_items held laws follows is_wrong wrong_is wrong_told c.args.bytes.now c.loop-reading.lexer _ c.loop-reading.invariant
    (lexeme c.in_ok-token.token) c.next.new.self (reading_state c.step.new.self)
    k c.in_ok-step.ensures (sym c.is_open.ensures ∙ c.if-is_open.false) (sym c.is_wrong_bar.ensures ∙ c.if-is_wrong_bar.true)

pub returns-in-loop-reading : goal.returns-in-loop-reading
returns-in-loop-reading c =
    let k = takes c.in_ok-token.token.kind c.loop-reading.lexer c.next.new.self (lexeme c.in_ok-token.token) c.in_default.not-End c.in_ok-token.ensures in
    token_answers plain bounded_items held laws follows is_wrong wrong_is wrong_told c.args.bytes.now c.loop-reading.lexer _ c.loop-reading.invariant
    (lexeme c.in_ok-token.token) c.next.new.self (reading_state c.step.new.self)
    k c.in_ok-step.ensures (sym c.is_open.ensures ∙ c.if-is_open.false) (sym c.is_wrong_bar.ensures ∙ c.if-is_wrong_bar.false)

pub loop-reading-init : goal.loop-reading-init
loop-reading-init c =
    going plain bounded_items held laws follows is_wrong wrong_is wrong_told c.args.bytes.now c.new-lexer.result (reading_state c.new-reading.result)
    c.new-lexer.ensures c.new-reading.ensures

pub loop-reading-preserved : goal.loop-reading-preserved
loop-reading-preserved c =
    let k = takes c.in_ok-token.token.kind c.loop-reading.lexer c.next.new.self (lexeme c.in_ok-token.token) c.in_default.not-End c.in_ok-token.ensures in
    keeps_going plain bounded_items held laws follows is_wrong wrong_is wrong_told c.args.bytes.now c.loop-reading.lexer c.next.new.self (lexeme c.in_ok-token.token) _ _ c.loop-reading.invariant
    k c.in_ok-step.ensures (sym c.is_open.ensures ∙ c.if-is_open.true)

pub loop-reading-smaller : goal.loop-reading-smaller
loop-reading-smaller c =
    let k = takes c.in_ok-token.token.kind c.loop-reading.lexer c.next.new.self (lexeme c.in_ok-token.token) c.in_default.not-End c.in_ok-token.ensures in
    shorter c.loop-reading.lexer c.next.new.self (lexeme c.in_ok-token.token) k
