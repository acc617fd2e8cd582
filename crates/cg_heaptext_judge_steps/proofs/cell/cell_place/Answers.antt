use Rattle.cg_heaptext_lexer.specs.Next.{lexeme}
use Rattle.cg_heaptext_judge_steps.proofs.Cells.{cell_first}
use Rattle.cg_heaptext_judge_steps.proofs.cell.cell_place.Goals as goal

pub returns : goal.returns
returns c = cell_first c.next.result.kind c.args.cell.now c.copy.result c.next.new.self (lexeme c.next.result) c.copy.ensures c.next.ensures
