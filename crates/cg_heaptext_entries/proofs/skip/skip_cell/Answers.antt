use Rattle.cg_heaptext_lexer.specs.Next.{lexeme}
use Rattle.cg_heaptext_entries.proofs.Skips.{passes_cell}
use Rattle.cg_heaptext_entries.proofs.skip.skip_cell.Goals as goal

pub returns-clause-passes : goal.returns-clause-passes
returns-clause-passes c =
    passes_cell c.next.result.kind c.args.lexer.now c.next.new.self c.skip_inside.new.lexer (lexeme c.next.result) c.next.ensures c.skip_inside.ensures.passes
