use Rattle.std.proofs.Common.{map}
use Rattle.cg_base.specs.Types.{to_taus, type_of}
use Rattle.cg_heaptext_judge_steps.proofs.Within.{answers_told, elements_told, slots_told}
use Rattle.cg_heaptext_judge_steps.proofs.library.judge_library.Goals as goal

pub returns-in-Answers : goal.returns-in-Answers
returns-in-Answers c = λ ns.
    answers_told c.args.cell.now ns c.args.judged.now c.args.judged.now c.args.name.now (to_taus (map type_of c.args.args.now)) c.judge_answers.result c.in-Answers.ensures c.judge_answers.ensures

pub returns-in-Elements : goal.returns-in-Elements
returns-in-Elements c = λ ns.
    elements_told c.args.cell.now ns c.args.judged.now c.judge_elements.new.judged c.args.name.now (to_taus (map type_of c.args.args.now)) c.judge_elements.result c.in-Elements.ensures
    (c.judge_elements.ensures ns)

pub returns-in-Slots : goal.returns-in-Slots
returns-in-Slots c = λ ns.
    slots_told c.args.cell.now ns c.args.judged.now c.args.judged.now c.args.name.now (to_taus (map type_of c.args.args.now)) c.misfit_cell.result c.in-Slots.ensures c.misfit_cell.ensures
