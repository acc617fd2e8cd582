-- What was judged is what is answered.
use Rattle.std.proofs.Common.{Result, Ok, Err, sym, subst}
use Rattle.cg_base.specs.declared.place.Place.{Place}
use Rattle.cg_base.specs.Types.{Tau}
use Rattle.cg_heaptext_def.specs.Footprints.{amounts}
use Rattle.cg_heaptext_def.specs.HeapText.{FirstOf, IsMisfit, read_events}
use Rattle.cg_heaptext_def.specs.Trees.{Heap}
use Rattle.cg_heaptext_judge.specs.Answers.{Answers}
use Rattle.cg_heaptext_judge_def.specs.Judging.{IsFirstAlias, IsOverIn, Judges, State}
use Rattle.cg_heaptext_judge_notes.specs.Notes.{AreMet, Tells}
use Rattle.cg_heaptext_judge_notes.specs.declared.fault.JudgeFault.{JudgeFault}
use Rattle.cg_heaptext_judge_notes.specs.declared.fault.JudgeFault.TheVariants.{Misfit, Memory}
use Rattle.cg_heaptext_judge_notes.specs.declared.notes.Judged.{Judged}
use Rattle.cg_heaptext_places.specs.Noted.{IsLeast}

pub answers_noted : (h : Heap) (t : Tau) (r : Result State Place) (judged : Judged) → Judges (read_events h t) r → Tells (amounts h) r (Ok tt) judged → Answers h t (Ok judged)
answers_noted h t (Ok s) judged j n = (
  j.0,
  subst (IsLeast (IsOverIn (read_events h t))) (sym n.over) j.1,
  subst (IsFirstAlias (read_events h t)) (sym n.aliased) j.2,
  subst (AreMet (amounts h) judged.mentions) j.3 n.cells,
)
answers_noted h t (Err p) judged j n = absurd n

pub answers_fault : (h : Heap) (t : Tau) (r : Result State Place) (judged : Judged) (x : JudgeFault) → Judges (read_events h t) r → Tells (amounts h) r (Err x) judged → Answers h t (Err x)
answers_fault h t r judged Memory j n = tt
answers_fault h t (Ok s) judged (Misfit place) j n = absurd n
answers_fault h t (Err p) judged (Misfit place) j n = subst (FirstOf IsMisfit (read_events h t)) (sym n) j
