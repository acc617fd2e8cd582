use Rattle.std.proofs.Common.{None, refl, sym, ◌∙◌, subst}
use Rattle.cg_heaptext_lexer.specs.Next.{Cursor, Gives, lexeme}
use Rattle.cg_heaptext_cells.proofs.Loosening.{none_loosened, one_loosened, slots_told}
use Rattle.cg_heaptext_cells.proofs.slots.loose_slots.Goals as goal

pub loop-slots-init : goal.loop-slots-init
loop-slots-init c =
    none_loosened c.next.result.kind c.args.cell.now c.next.new.self (lexeme c.next.result) c.new-slots.result None c.new-slots.ensures refl
    (subst (λ (at : Cursor). Gives c.next.result.kind at (lexeme c.next.result) c.next.new.self) c.copy-lexer.ensures c.next.ensures)

pub loop-slots-preserved : goal.loop-slots-preserved
loop-slots-preserved c =
    one_loosened c.args.cell.now c.loop-slots.lexer c.next-token.new.self c.next-token.result c.next-token.ensures c.loop-slots.held c.loop-slots.depth c.loop-slots.slots c.loop-slots.over c.loop-slots.invariant
    c.gift_of-gift.result c.gift_of-gift.ensures c.add.new.slots c.note_gift-over.result c.in_ok-add.ensures c.note_gift-over.ensures c.held_of-held.result c.held_of-held.ensures c.in-Some.behind
    (sym c.in-Some.is ∙ c.in_ok-behind.ensures)

pub returns-in-None : goal.returns-in-None
returns-in-None c = λ p fs s.
    slots_told c.args.cell.now c.loop-slots.lexer c.next-token.new.self c.next-token.result c.next-token.ensures c.loop-slots.held c.loop-slots.depth c.loop-slots.slots c.loop-slots.over c.loop-slots.invariant
    c.gift_of-gift.result c.gift_of-gift.ensures c.add.new.slots c.note_gift-over.result c.in_ok-add.ensures c.note_gift-over.ensures
    (sym c.in-None.is ∙ c.in_ok-behind.ensures) p fs s
