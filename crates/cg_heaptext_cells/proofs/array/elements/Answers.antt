use Rattle.std.proofs.Common.{[], ◌∷◌, ◌++◌, None, refl, ap, ◌∙◌, subst}
use Rattle.cg_heaptext_lexer.specs.Next.{Cursor, Gives, lexeme}
use Rattle.cg_heaptext_cells.proofs.Gathering.{comma_passed, elements_told, none_gathered, one_gathered}
use Rattle.cg_heaptext_cells.proofs.array.elements.Goals as goal

pub loop-numbers-init : goal.loop-numbers-init
loop-numbers-init c =
    none_gathered c.next.result.kind c.args.cell.now c.next.new.self (lexeme c.next.result) c.args.most c.new-numbers.result None c.new-numbers.ensures refl (subst (λ (at : Cursor). Gives c.next.result.kind at (lexeme c.next.result) c.next.new.self) c.copy-lexer.ensures c.next.ensures)

pub loop-numbers-preserved-in-Item : goal.loop-numbers-preserved-in-Item
loop-numbers-preserved-in-Item c =
    one_gathered c.args.cell.now c.loop-numbers.lexer c.next-token.new.self c.next-token.result c.next-token.ensures c.args.most c.loop-numbers.numbers c.loop-numbers.over c.loop-numbers.invariant
    c.push.new.self c.note-over.result c.in-Item.ensures (c.in_ok-push-in-Item.ensures.ok ∙ ap (λ n. c.loop-numbers.numbers ++ n ∷ []) c.number.ensures) c.note-over.ensures

pub loop-numbers-preserved : goal.loop-numbers-preserved
loop-numbers-preserved c =
    comma_passed c.args.cell.now c.loop-numbers.lexer c.next-token.new.self c.next-token.result c.next-token.ensures c.args.most c.loop-numbers.numbers c.loop-numbers.over c.loop-numbers.invariant c.in-Comma.ensures

pub returns-in-Over : goal.returns-in-Over
returns-in-Over c = λ p ns s.
    elements_told c.args.cell.now c.loop-numbers.lexer c.next-token.new.self c.next-token.result c.next-token.ensures c.args.most c.loop-numbers.numbers c.loop-numbers.over c.loop-numbers.invariant
    c.in-Over.ensures p ns (p, s)
