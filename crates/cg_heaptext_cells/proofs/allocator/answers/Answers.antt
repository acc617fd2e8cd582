use Rattle.std.proofs.Common.{◌≡◌, Bool, List, [], ◌∷◌, ◌++◌, codes, sym, ap, ◌∙◌, subst, refl}
use Rattle.std.specs.Str.{bytes_eq}
use Rattle.cg_heaptext_lexer.specs.Next.{Cursor, Gives, lexeme}
use Rattle.cg_heaptext_cells.proofs.Listing.{AreAnswers, Going, all_gathered, answers_begin, behind_comma, behind_item, bit_in}
use Rattle.cg_heaptext_cells.proofs.Standing.{text_same}
use Rattle.cg_heaptext_cells.proofs.allocator.answers.Goals as goal

pub loop-token-init : goal.loop-token-init
loop-token-init c =
    answers_begin c.next.result.kind c.args.cell.now c.next.new.self (lexeme c.next.result) c.new-answers.result c.new-answers.ensures (subst (λ (at : Cursor). Gives c.next.result.kind at (lexeme c.next.result) c.next.new.self) c.copy-lexer.ensures c.next.ensures)

pub loop-token-preserved : goal.loop-token-preserved
loop-token-preserved c =
    let t = c.next-token.result in
    let going = behind_item Bool bit_in (AreAnswers c.args.cell.now) t.kind t.text.now c.loop-token.lexer c.next-token.new.self (lexeme t) refl c.next-token.ensures c.loop-token.answers c.loop-token.invariant c.in-Item.ensures in
    let bit : bit_in (lexeme t) ≡ c.is_yes-answer.result = ap (λ x. bytes_eq x (codes "1")) (text_same t.kind t.text.now) ∙ sym c.is_yes-answer.ensures in
    subst (λ (xs : List Bool). Going Bool bit_in (AreAnswers c.args.cell.now) c.next-token.new.self xs) (ap (λ b. c.loop-token.answers ++ b ∷ []) bit ∙ sym c.in_ok-push.ensures.ok) going

pub loop-token-preserved-in-Comma : goal.loop-token-preserved-in-Comma
loop-token-preserved-in-Comma c =
    let t = c.next-token.result in
    behind_comma Bool bit_in (AreAnswers c.args.cell.now) t.kind t.text.now c.loop-token.lexer c.next-token.new.self (lexeme t) refl c.next-token.ensures c.loop-token.answers c.loop-token.invariant c.in-Comma.ensures

pub returns-in-Over : goal.returns-in-Over
returns-in-Over c = λ p bs s.
    let t = c.next-token.result in
    all_gathered Bool bit_in (AreAnswers c.args.cell.now) t.kind t.text.now c.loop-token.lexer c.next-token.new.self (lexeme t) refl c.next-token.ensures c.loop-token.answers c.loop-token.invariant c.in-Over.ensures bs (p, s)
