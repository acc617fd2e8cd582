-- What is answered of the argument of a heap file at a type (docs/LANGUAGE.md, "Heap files").
use Rattle.std.specs.Prelude.{List, Result, Ok, Err, ⊤}
use Rattle.cg_base.specs.Types.{Tau}
use Rattle.cg_heaptext_def.specs.Footprints.{amounts}
use Rattle.cg_heaptext_def.specs.HeapText.{At, Lacks, misfits, read_events}
use Rattle.cg_heaptext_def.specs.Reading.{Event}
use Rattle.cg_heaptext_def.specs.Trees.{Heap}
use Rattle.cg_heaptext_judge_def.specs.Judging.{IsFirstAlias, IsOverIn, met_in}
use Rattle.cg_heaptext_judge_notes.specs.declared.fault.JudgeFault.{JudgeFault}
use Rattle.cg_heaptext_judge_notes.specs.declared.fault.JudgeFault.TheVariants.{Misfit, Memory}
use Rattle.cg_heaptext_judge_notes.specs.declared.notes.Judged.{Judged}
use Rattle.cg_heaptext_judge_notes.specs.declared.notes.Mentioned.{Mentioned}
use Rattle.cg_heaptext_judge_notes.specs.Notes.{AreMet}
use Rattle.cg_heaptext_places.specs.Noted.{IsLeast}

-- the cells that were read are those that are mentioned, in order: the same places, the positions of their entries, and the same types
abbrev pub AreMentions : Heap → List Mentioned → List Event → Type 0
AreMentions h ms es = AreMet (amounts h) ms (met_in es)

-- The answer is right: all fits, and these are the earliest number that passes its type, the first alias and the cells that are read; or what
-- is met first that doesn't fit stands at this place; or memory was wanting.
abbrev pub Answers : Heap → Tau → Result Judged JudgeFault → Type 0
Answers h t (Ok judged) = Lacks misfits h t × IsLeast (IsOverIn (read_events h t)) judged.over × IsFirstAlias (read_events h t) judged.aliased × AreMentions h judged.mentions (read_events h t)
Answers h t (Err (Misfit place)) = At misfits h t place
Answers h t (Err Memory) = ⊤
