use Rattle.std.proofs.Common.{refl}
use Rattle.cg_heaptext_lexer.specs.Next.{lexeme}
use Rattle.cg_heaptext_entries.proofs.Entries.{passes_numeral}
use Rattle.cg_heaptext_entries.proofs.pass.numeral.Goals as goal

pub returns-clause-passes : goal.returns-clause-passes
returns-clause-passes c =
    let t = c.next-token.result in
    passes_numeral t.kind t.text.now c.args.lexer.now c.next-token.new.self (lexeme t) (record { place = t.place; digits = t.text }) refl refl refl c.next-token.ensures
