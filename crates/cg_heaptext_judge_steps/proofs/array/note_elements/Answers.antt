use Rattle.std.proofs.Common.{◌+◌, sym, ◌∙◌}
use Rattle.cg_heaptext_cells.specs.ByKind.{read_by}
use Rattle.cg_heaptext_cells.specs.Lists.{marked}
use Rattle.cg_heaptext_cells.specs.declared.list.Mark.TheVariants.{Over}
use Rattle.cg_heaptext_lexer.specs.Next.{lexeme}
use Rattle.cg_heaptext_judge_steps.proofs.Counting.{all_counted, comma_is, comma_passed, item_is, none_counted, one_counted, over_is}
use Rattle.cg_heaptext_judge_steps.proofs.array.note_elements.Goals as goal

pub loop-token-init : goal.loop-token-init
loop-token-init c = none_counted c.next.result.kind c.args.cell.now c.copy-lexer.result c.next.new.self (lexeme c.next.result) (c.args.most + 1) c.args.over c.copy-lexer.ensures c.next.ensures

pub loop-token-preserved-then-is_item : goal.loop-token-preserved-then-is_item
loop-token-preserved-then-is_item c =
    let t = c.next-token.result in
    one_counted c.args.cell.now c.loop-token.lexer c.next-token.new.self t c.next-token.ensures (c.args.most + 1) c.args.over c.loop-token.found c.loop-token.invariant c.note_number-found.result
    (item_is (read_by marked Over t.kind t.text.now) (sym c.if-is_item.true ∙ c.is_item.ensures)) c.note_number-found.ensures

pub returns-then-not-is_comma : goal.returns-then-not-is_comma
returns-then-not-is_comma c = λ p ns s.
    let t = c.next-token.result in
    all_counted c.args.cell.now c.loop-token.lexer c.next-token.new.self t c.next-token.ensures (c.args.most + 1) c.args.over c.loop-token.found c.loop-token.invariant
    (over_is (read_by marked Over t.kind t.text.now) (sym c.if-is_item.false ∙ c.is_item.ensures) (sym c.if-not-is_comma.true ∙ c.is_comma.ensures)) ns (p, s)

pub loop-token-preserved : goal.loop-token-preserved
loop-token-preserved c =
    let t = c.next-token.result in
    comma_passed c.args.cell.now c.loop-token.lexer c.next-token.new.self t c.next-token.ensures (c.args.most + 1) c.args.over c.loop-token.found c.loop-token.invariant
    (comma_is (read_by marked Over t.kind t.text.now) (sym c.if-not-is_comma.false ∙ c.is_comma.ensures))
