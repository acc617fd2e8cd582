use Rattle.cg_heaptext_contents.proofs.ContentSteps.{are_answers, are_slots, is_array}
use Rattle.std.specs.Option.{option_map}
use Rattle.cg_base.specs.Types.{type_of}
use Rattle.cg_heaptext_contents.proofs.content.content_of.Goals as goal

pub returns-in-Slots : goal.returns-in-Slots
returns-in-Slots c e is = c.slots.ensures e.cell is.cell (are_slots e.cell (c.in-Slots.ensures e.cell is.cell))

pub returns-in-Elements : goal.returns-in-Elements
returns-in-Elements c e is = c.array.ensures e.cell (option_map (λ t. type_of t.now) c.args.ty) is.cell (is_array e.cell (c.in-Elements.ensures e.cell is.cell))

pub returns-in-Answers : goal.returns-in-Answers
returns-in-Answers c e is = c.allocator.ensures e.cell (option_map (λ t. type_of t.now) c.args.ty) is.cell (are_answers e.cell (c.in-Answers.ensures e.cell is.cell))
