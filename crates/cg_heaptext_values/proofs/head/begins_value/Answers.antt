use Rattle.std.proofs.Common.{refl, sym, ◌∙◌, subst}
use Rattle.cg_heaptext_entries.specs.Index.{Before}
use Rattle.cg_heaptext_lexer.specs.Next.{Cursor, lexeme}
use Rattle.cg_heaptext_values.proofs.Loops.{begins_there}
use Rattle.cg_heaptext_values.proofs.head.begins_value.Goals as goal

pub returns : goal.returns
returns c ts b =
    let here = subst (λ (at : Cursor). Before at ts) (sym c.copy.ensures) b in
    c.opens_value.ensures ∙ begins_there c.next-token.result.kind c.next-token.result.text.now c.copy.result c.next-token.new.self (lexeme c.next-token.result) c.turn_of.result refl c.next-token.ensures c.turn_of.ensures ts here
