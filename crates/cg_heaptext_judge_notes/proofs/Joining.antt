-- What was judged of some things, and of others behind them.
use Rattle.std.proofs.Common.{ℕ, List, [], ◌++◌, Result, Ok, Err, sym, subst}
use Rattle.cg_base.specs.declared.place.Place.{Place}
use Rattle.cg_heaptext_def.specs.Reading.{Event}
use Rattle.cg_heaptext_judge_def.specs.Judging.{State, after, run}
use Rattle.cg_heaptext_judge_laws.proofs.Running.{run_both}
use Rattle.cg_heaptext_judge_notes.specs.Notes.{Notes, Tells}
use Rattle.cg_heaptext_judge_notes.specs.declared.fault.JudgeFault.{JudgeFault}
use Rattle.cg_heaptext_judge_notes.specs.declared.fault.JudgeFault.TheVariants.{Misfit, Memory}
use Rattle.cg_heaptext_judge_notes.specs.declared.notes.Judged.{Judged}

module _ (ns : List ℕ) where
  -- nothing is met
  pub notes_none : (old : Judged) → Notes ns old [] (Ok tt) old
  notes_none old s noted = noted

  -- memory was wanting
  told_memory : (r : Result State Place) (new : Judged) → Tells ns r (Err Memory) new
  told_memory (Ok s) new = tt
  told_memory (Err p) new = tt

  -- all of the first things were noted
  pub notes_both : (old mid new : Judged) (es fs : List Event) (r : Result (Unit {0}) JudgeFault) → Notes ns old es (Ok tt) mid → Notes ns mid fs r new → Notes ns old (es ++ fs) r new
  notes_both old mid new es fs r one two s noted = subst (λ x. Tells ns x r new) (sym (run_both s es fs)) (go_on (run s es) (one s noted))
    where
      go_on : (x : Result State Place) → Tells ns x (Ok tt) mid → Tells ns (after x (λ s. run s fs)) r new
      go_on (Ok next) t = two next t
      go_on (Err p) t = absurd t

  -- or not all
  told_after : (x : JudgeFault) (r : Result State Place) (old new : Judged) (fs : List Event) → Tells ns r (Err x) old → Tells ns (after r (λ s. run s fs)) (Err x) new
  told_after (Misfit p) (Ok s) old new fs t = absurd t
  told_after (Misfit p) (Err q) old new fs t = t
  told_after Memory (Ok s) old new fs t = told_memory (run s fs) new
  told_after Memory (Err q) old new fs t = tt

  pub notes_fails : (old mid new : Judged) (es fs : List Event) (x : JudgeFault) → Notes ns old es (Err x) mid → Notes ns old (es ++ fs) (Err x) new
  notes_fails old mid new es fs x one s noted = subst (λ r. Tells ns r (Err x) new) (sym (run_both s es fs)) (told_after x (run s es) mid new fs (one s noted))
