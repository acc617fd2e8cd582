use Rattle.std.proofs.Common.{refl, sym, subst}
use Rattle.cg_heaptext_lexer.specs.declared.token.TokenKind.{TokenKind}
use Rattle.cg_heaptext_lexer.specs.declared.token.TokenKind.TheVariants.{Number, Lower}
use Rattle.cg_heaptext_lexer.specs.Next.{Cursor, Gives, lexeme, token_of}
use Rattle.cg_heaptext_values.specs.declared.head.Head.TheVariants as head
use Rattle.cg_heaptext_values.specs.Values.{Tells}
use Rattle.cg_heaptext_values.proofs.Heads.{Behind, end_there, tells_gone, tells_number, tells_value, unknown_there}
use Rattle.cg_heaptext_values.proofs.head.ValueAt.head.Goals as goal

pub returns-in-Number : goal.returns-in-Number
returns-in-Number c =
    let t = c.next-token.result in
    tells_value t.kind c.args.self.now c.behind_layers-lexer.result c.next-token.new.self (lexeme t) (head.Number (record { place = t.place; digits = t.text }))
    (subst (λ (at : Cursor). Behind at c.behind_layers-lexer.result) c.self.view_is c.behind_layers-lexer.ensures) c.next-token.ensures
    (subst (λ (k : TokenKind). Tells (record { token = token_of k t.text.now; place = t.place }) c.next-token.new.self (head.Number (record { place = t.place; digits = t.text }))) (sym c.in-Number.is)
    (tells_number c.next-token.new.self (record { token = token_of Number t.text.now; place = t.place }) (record { place = t.place; digits = t.text }) refl refl))

pub returns-in-Upper : goal.returns-in-Upper
returns-in-Upper c =
    let t = c.next-token.result in
    tells_value t.kind c.args.self.now c.behind_layers-lexer.result c.next-token.new.self (lexeme t) (c.constructor.result)
    (subst (λ (at : Cursor). Behind at c.behind_layers-lexer.result) c.self.view_is c.behind_layers-lexer.ensures) c.next-token.ensures
    (subst (λ (k : TokenKind). Tells (record { token = token_of k t.text.now; place = t.place }) c.next-token.new.self (c.constructor.result)) (sym c.in-Upper.is)
    (c.constructor.ensures t.place))

pub returns-in-Sign : goal.returns-in-Sign
returns-in-Sign c =
    let t = c.next-token.result in
    tells_value t.kind c.args.self.now c.behind_layers-lexer.result c.next-token.new.self (lexeme t) (c.bracket.result)
    (subst (λ (at : Cursor). Behind at c.behind_layers-lexer.result) c.self.view_is c.behind_layers-lexer.ensures) c.next-token.ensures
    (subst (λ (k : TokenKind). Tells (record { token = token_of k t.text.now; place = t.place }) c.next-token.new.self (c.bracket.result)) (sym c.in-Sign.is)
    (c.bracket.ensures))

pub returns-in-Lower : goal.returns-in-Lower
returns-in-Lower c =
    let t = c.next-token.result in
    tells_value t.kind c.args.self.now c.behind_layers-lexer.result c.next-token.new.self (lexeme t) (head.Gone)
    (subst (λ (at : Cursor). Behind at c.behind_layers-lexer.result) c.self.view_is c.behind_layers-lexer.ensures) c.next-token.ensures
    (subst (λ (k : TokenKind). Tells (record { token = token_of k t.text.now; place = t.place }) c.next-token.new.self (head.Gone)) (sym c.in-Lower.is)
    (tells_gone c.next-token.new.self (record { token = token_of Lower t.text.now; place = t.place }) t.text.now refl))

pub returns-in-Unknown : goal.returns-in-Unknown
returns-in-Unknown c v s =
    let t = c.next-token.result in
    absurd (unknown_there c.args.self.now c.behind_layers-lexer.result c.next-token.new.self (lexeme t)
    (subst (λ (at : Cursor). Behind at c.behind_layers-lexer.result) c.self.view_is c.behind_layers-lexer.ensures)
    (subst (λ (k : TokenKind). Gives k c.behind_layers-lexer.result (lexeme t) c.next-token.new.self) c.in-Unknown.is c.next-token.ensures) v s)

pub returns-in-End : goal.returns-in-End
returns-in-End c v s =
    let t = c.next-token.result in
    absurd (end_there c.args.self.now c.behind_layers-lexer.result c.next-token.new.self (lexeme t)
    (subst (λ (at : Cursor). Behind at c.behind_layers-lexer.result) c.self.view_is c.behind_layers-lexer.ensures)
    (subst (λ (k : TokenKind). Gives k c.behind_layers-lexer.result (lexeme t) c.next-token.new.self) c.in-End.is c.next-token.ensures) v s)
