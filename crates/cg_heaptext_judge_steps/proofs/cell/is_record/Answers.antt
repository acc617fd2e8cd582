use Rattle.cg_heaptext_judge_steps.proofs.Cells.{others_told, slots_told}
use Rattle.cg_heaptext_judge_steps.proofs.cell.is_record.Goals as goal

pub returns-in-Slots : goal.returns-in-Slots
returns-in-Slots c = slots_told c.args.cell.now c.args.parts.now c.fields_of.result c.have_names.result c.in-Slots.ensures c.fields_of.ensures c.have_names.ensures

pub returns-in-Elements : goal.returns-in-Elements
returns-in-Elements c = others_told c.args.cell.now c.args.parts.now c.form.result c.in-Elements.is c.form.ensures
