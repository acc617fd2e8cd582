use Rattle.std.proofs.Common.{sym, subst, ◌∙◌}
use Rattle.cg_heaptext_lexer.specs.Next.{Cursor, lexeme}
use Rattle.cg_heaptext_values.specs.Values.{StandsAt}
use Rattle.cg_heaptext_values.proofs.Heads.{first_place}
use Rattle.cg_heaptext_values.proofs.head.ValueAt.place.Goals as goal

pub returns : goal.returns
returns c v s = first_place c.next.result.kind c.copy.result c.next.new.self (lexeme c.next.result) c.next.ensures v (subst (λ (at : Cursor). StandsAt at v) (sym c.self.view_is ∙ sym c.copy.ensures) s)
