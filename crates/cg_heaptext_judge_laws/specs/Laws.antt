-- What holds of all that is met in heap files.
use Rattle.std.specs.Prelude.{List}
use Rattle.cg_heaptext_def.specs.Reading.{Event}
use Rattle.cg_heaptext_judge_def.specs.Judging.{Judges, run, start}

-- What is noted of things that are met one by one is what is asked of all of them.
abbrev pub RunsJudge : Type 0
RunsJudge = (es : List Event) → Judges es (run start es)
