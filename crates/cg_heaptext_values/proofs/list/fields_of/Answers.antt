use Rattle.std.proofs.Common.{sym, subst}
use Rattle.cg_heaptext_entries.specs.Index.{CellStands}
use Rattle.cg_heaptext_def.specs.Trees.{slots}
use Rattle.cg_heaptext_lexer.specs.Next.{Cursor, lexeme}
use Rattle.cg_heaptext_values.proofs.Takes.{cell_fields}
use Rattle.cg_heaptext_values.proofs.list.fields_of.Goals as goal

pub returns : goal.returns
returns c p fs s = cell_fields c.next.result.kind c.copy-lexer.result c.next.new.self (lexeme c.next.result) c.next.ensures p fs (subst (λ (at : Cursor). CellStands at (slots p fs)) (sym c.copy-lexer.ensures) s)
