use Rattle.std.proofs.Common.{◌+◌, map, refl}
use Rattle.cg_base.specs.Types.{to_taus, type_of}
use Rattle.cg_heaptext_def.specs.Trees.{elements}
use Rattle.cg_heaptext_judge_notes.specs.declared.notes.Judged.{Judged}
use Rattle.cg_heaptext_judge_steps.proofs.Within.{elements_noted, others_noted}
use Rattle.cg_heaptext_judge_steps.proofs.library.judge_elements.Goals as goal

pub returns-in-Some : goal.returns-in-Some
returns-in-Some c = λ ns p xs s.
    let new : Judged = record { mentions = c.args.judged.now.mentions; over = c.note_elements-judged.result; aliased = c.args.judged.now.aliased } in
    elements_noted ns c.args.judged.now new c.args.name.now (to_taus (map type_of c.args.args.now)) p xs c.in-Some.word (c.most_of.result + 1) c.in-Some.ensures c.most_of.ensures refl refl
    (c.note_elements-judged.ensures p xs s)

pub returns-in-None : goal.returns-in-None
returns-in-None c = λ ns p xs s.
    others_noted ns c.args.judged.now c.args.name.now (to_taus (map type_of c.args.args.now)) p xs c.misfit_cell.result c.in-None.ensures (c.misfit_cell.ensures (elements p xs) s)
