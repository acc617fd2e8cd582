use Rattle.std.proofs.Common.{refl, subst}
use Rattle.cg_heaptext_lexer.specs.Next.{Cursor, Gives, lexeme}
use Rattle.cg_heaptext_cells.proofs.Forms.{form_read}
use Rattle.cg_heaptext_cells.proofs.cell.form.Goals as goal

pub returns : goal.returns
returns c =
    let t = c.next-token.result in
    form_read t.kind t.text.now c.args.cell.now c.next-token.new.self (lexeme t) c.sign_form.result refl (subst (λ (at : Cursor). Gives t.kind at (lexeme t) c.next-token.new.self) c.copy-lexer.ensures c.next-token.ensures) c.sign_form.ensures
