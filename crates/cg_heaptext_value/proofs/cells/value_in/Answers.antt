use Rattle.cg_heaptext_value.proofs.Forms.{answers_within, array_within, slots_within}
use Rattle.cg_heaptext_value.proofs.cells.value_in.Goals as goal

pub returns-in-Slots : goal.returns-in-Slots
returns-in-Slots c = λ w s. slots_within w (c.in-Slots.ensures w s)

pub returns-in_ok-elements-in-Elements : goal.returns-in_ok-elements-in-Elements
returns-in_ok-elements-in-Elements c = λ w s.
    array_within c.args.cell.now c.in_ok-elements-in-Elements.field-0.numbers (λ p ns is. (c.in_ok-elements-in-Elements.ensures p ns is).1) w (c.in-Elements.ensures w s) s

pub returns-in_ok-answers-in-Answers : goal.returns-in_ok-answers-in-Answers
returns-in_ok-answers-in-Answers c = λ w s. answers_within c.args.cell.now c.in_ok-answers-in-Answers.field-0 c.in_ok-answers-in-Answers.ensures w (c.in-Answers.ensures w s) s
