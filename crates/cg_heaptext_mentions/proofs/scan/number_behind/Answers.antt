use Rattle.std.proofs.Common.{refl}
use Rattle.cg_heaptext_lexer.specs.Next.{lexeme}
use Rattle.cg_heaptext_mentions.proofs.Walk.{number_given, number_lacks}
use Rattle.cg_heaptext_mentions.proofs.scan.number_behind.Goals as goal

pub returns-in-Number : goal.returns-in-Number
returns-in-Number c =
    let t = c.next-token.result in
    number_given t.kind t.text.now c.args.lexer.now c.copy.result c.next-token.new.self (lexeme t) (record { place = t.place; digits = t.text }) refl c.copy.ensures c.in-Number.is refl refl c.next-token.ensures

pub returns-in_default : goal.returns-in_default
returns-in_default c =
    let t = c.next-token.result in
    number_lacks t.kind t.text.now c.args.lexer.now c.copy.result c.next-token.new.self (lexeme t) refl c.copy.ensures c.in_default.not-Number c.next-token.ensures
