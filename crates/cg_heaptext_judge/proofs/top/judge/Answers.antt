use Rattle.std.proofs.Common.{◌≡◌, arith, Err, sym, subst}
use Rattle.cg_base.specs.Types.{type_of}
use Rattle.cg_heaptext_def.specs.Footprints.{amounts}
use Rattle.cg_heaptext_def.specs.HeapText.{read_events}
use Rattle.cg_heaptext_judge.proofs.Answering.{answers_fault, answers_noted}
use Rattle.cg_heaptext_judge.proofs.There.{argument_there}
use Rattle.cg_heaptext_judge.specs.Answers.{Answers}
use Rattle.cg_heaptext_judge_def.specs.Judging.{run, start}
use Rattle.cg_heaptext_judge.proofs.top.judge.Goals as goal

pub returns-in_err-judge_value : goal.returns-in_err-judge_value
returns-in_err-judge_value c = λ bytes h spells index addresses no_second no_absent.
    let t = type_of c.args.ty.now in
    let same : c.from_residual.result ≡ Err c.in_err-judge_value.field-0.0 = grind arith in
    subst (Answers h t) (sym same)
    (answers_fault h t (run start (read_events h t)) c.judge_value.new.judged c.in_err-judge_value.field-0.0 (c.runs_judge.ensures (read_events h t))
    (c.in_err-judge_value.ensures h (record { index = index; addresses = addresses; no_absent = no_absent }) h.argument (c.argument.ensures h index) (argument_there h no_absent)
    start (c.new-judged.ensures (amounts h))))

pub returns : goal.returns
returns c = λ bytes h spells index addresses no_second no_absent.
    let t = type_of c.args.ty.now in
    answers_noted h t (run start (read_events h t)) c.judge_value.new.judged (c.runs_judge.ensures (read_events h t))
    (c.in_ok-judge_value.ensures h (record { index = index; addresses = addresses; no_absent = no_absent }) h.argument (c.argument.ensures h index) (argument_there h no_absent)
    start (c.new-judged.ensures (amounts h)))
