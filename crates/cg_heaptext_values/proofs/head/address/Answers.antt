use Rattle.std.proofs.Common.{refl, subst}
use Rattle.cg_heaptext_def.specs.Tokens.{sign}
use Rattle.cg_heaptext_lexer.specs.Next.{Cursor, Gives, lexeme}
use Rattle.cg_heaptext_values.proofs.Heads.{tells_address}
use Rattle.cg_heaptext_values.proofs.head.address.Goals as goal

pub returns : goal.returns
returns c x o =
    let t = c.next-token.result in
    tells_address c.args.lexer.now (record { token = sign x; place = c.args.place }) c.args.place x t.kind t.text.now c.next-token.new.self (lexeme t) (record { place = t.place; digits = t.text }) refl refl o refl refl refl
    (subst (λ (at : Cursor). Gives t.kind at (lexeme t) c.next-token.new.self) c.copy.ensures c.next-token.ensures)
