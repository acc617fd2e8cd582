use Rattle.cg_heaptext_lexer.specs.Next.{lexeme}
use Rattle.cg_heaptext_mentions.specs.Judged.{absent_after, out_after}
use Rattle.cg_heaptext_mentions.proofs.Cells.{scans_cell}
use Rattle.cg_heaptext_mentions.proofs.pass.scan_cell.Goals as goal

pub returns-clause-absent : goal.returns-clause-absent
returns-clause-absent c = λ ns m.
    scans_cell (absent_after ns) c.next.result.kind c.args.cell.now c.copy-inside.result c.next.new.self (lexeme c.next.result) c.args.before.absent c.scan.result.absent c.copy-inside.ensures c.next.ensures (c.scan.ensures.absent ns m)

pub returns-clause-out : goal.returns-clause-out
returns-clause-out c =
    scans_cell out_after c.next.result.kind c.args.cell.now c.copy-inside.result c.next.new.self (lexeme c.next.result) c.args.before.out c.scan.result.out c.copy-inside.ensures c.next.ensures c.scan.ensures.out
