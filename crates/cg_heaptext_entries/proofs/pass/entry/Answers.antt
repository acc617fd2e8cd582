use Rattle.std.proofs.Common.{ap}
use Rattle.cg_heaptext_lexer.specs.Next.{Cursor, lexeme}
use Rattle.cg_heaptext_entries.specs.declared.entry.EntryAt.{EntryAt}
use Rattle.cg_heaptext_entries.proofs.Entries.{passes_entry}
use Rattle.cg_heaptext_entries.proofs.pass.entry.Goals as goal

pub returns-clause-passes : goal.returns-clause-passes
returns-clause-passes c =
    let at : EntryAt = record { place = c.args.place; address = c.numeral-address.result; cell = c.copy-cell.result } in
    passes_entry c.next.result.kind c.args.lexer.now c.numeral-address.new.lexer c.next.new.self c.skip_cell.new.lexer (lexeme c.next.result) c.args.place c.numeral-address.result at
    (ap (λ (x : Cursor). record { place = c.args.place; address = c.numeral-address.result; cell = x }) c.copy-cell.ensures)
    c.numeral-address.ensures.passes c.next.ensures c.skip_cell.ensures.passes
