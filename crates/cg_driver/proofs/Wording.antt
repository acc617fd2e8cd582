-- The usage text is for words that are no command, and for all of them; and what follows where no fault is answered.
use Rattle.std.proofs.Common.{◌≡◌, ◌⊎◌, ◌∙◌, ◌<◌, arith, inl, inr, ℕ, List, ◌∷◌, Option, Some, None, Result, Ok, Err, refl, sym, subst}
use Rattle.std.specs.Prelude.{IfOk}
use Rattle.cg_base.specs.declared.memory.Memory.{Memory as NoMemory}
use Rattle.cg_outside.specs.Causes.{Rose}
use Rattle.cg_driver_steps.specs.declared.report.Report.{Report}
use Rattle.cg_driver_steps.specs.declared.status.Status.{Status}
use Rattle.cg_driver_steps.specs.declared.status.Status.TheVariants.{Usage, ReadFault, WriteFault, Memory}
use Rattle.cg_driver_steps.specs.World.{World}
use Rattle.cg_driver_steps.specs.Steps.{Runs, refuses, goes, Each, ReadsFirst}
use Rattle.cg_driver_steps.specs.Scripts.{IsSaid, Says, Answers, printed, unprinted, no_memory, IsVerdict}
use Rattle.cg_driver_steps.specs.Parts.{IsLine, Concludes}
use Rattle.cg_driver_steps.proofs.Deciding.{Refuses, by_read, by_write, by_judgement, refused_by}
use Rattle.cg_driver_words.specs.Words.{Command, check, build, gen, recheck, run}
use Rattle.std.specs.Io.KnownBytes.{append_known}
use Rattle.cg_driver.specs.Commands.{Judges, build_steps, reads_source, script_of}
use Rattle.cg_driver.specs.Externs.{Extern}
use Rattle.cg_driver.specs.Found.{Found, functions, nothing}
use Rattle.cg_driver.specs.Instanced.{IsCompiled}
use Rattle.cg_driver_lines.specs.Lines.{usage_text}
use Rattle.cg_driver.proofs.Judging.{IsOfCommand, IsNotUsage, not_usage}

-- where no fault is answered, what follows from a verdict holds, or memory ran out
pub or_memory : (P : Type 0) (s : Status) → (s ≡ ReadFault → ⊥) → (s ≡ WriteFault → ⊥) → (IsVerdict s → P) → P ⊎ (s ≡ Memory)
or_memory P ReadFault no_read no_write verdict = absurd (no_read refl)
or_memory P WriteFault no_read no_write verdict = absurd (no_write refl)
or_memory P Memory no_read no_write verdict = inr refl
or_memory P s no_read no_write verdict = inl (verdict tt)

-- the steps of the commands judge no words
of_command : (table : Extern) (c : Command) → Each IsOfCommand (script_of table (Some c)).steps
of_command table (check file) = (tt, (tt, (tt, (tt, (tt, (tt, (tt, (tt, (tt, (tt, (tt, tt)))))))))))
of_command table (build file text certificate) = (tt, (tt, (tt, (tt, (tt, (tt, (tt, (tt, (tt, (tt, (tt, (tt, (tt, tt)))))))))))))
of_command table (recheck file certificate) = (tt, (tt, (tt, (tt, (tt, (tt, (tt, (tt, (tt, (tt, (tt, (tt, (tt, tt)))))))))))))
of_command table (run file entry heap steps) = (tt, (tt, (tt, (tt, (tt, (tt, (tt, (tt, (tt, (tt, (tt, (tt, (tt, (tt, (tt, (tt, (tt, (tt, tt))))))))))))))))))
of_command table (gen n) = (tt, (tt, (tt, (tt, (tt, (tt, (tt, (tt, (tt, (tt, (tt, (tt, (tt, (tt, (tt, (tt, (tt, (tt, (tt, tt)))))))))))))))))))

module _ (table : Extern) (old new : World) where
  -- no command says the usage text
  says_usage : (c : Command) (s : Status) (text : List ℕ) → Says Judges (script_of table (Some c)) old new s text → s ≡ Usage → ⊥
  says_usage c s text (goes found, r, is) e = go c is
    where
      go : (c : Command) → IsSaid (script_of table (Some c)).line (goes found) s text → ⊥
      go c is = let d = is.0 in absurd (cc)
  says_usage c s text (refuses status t, r, is) e =
      go (refused_by Judges IsOfCommand IsNotUsage not_usage (script_of table (Some c)).steps (script_of table (Some c)).start old new status t (of_command table c) r)
    where
      go : Refuses Judges IsNotUsage (script_of table (Some c)).steps old new status t → ⊥
      go (by_read x u) = let d = is.0 in absurd (cc)
      go (by_write x u) = let d = is.0 in absurd (cc)
      go (by_judgement q) = q (sym is.0 ∙ e)

  -- words that are no command say it
  says_none : (s : Status) (text : List ℕ) → Says Judges (script_of table None) old new s text → s ≡ Usage
  says_none s text (refuses status t, inl r, is) = is.0 ∙ r.1.0.0
  says_none s text (refuses status t, inr r, is) = absurd r.2.0
  says_none s text (goes found, inl r, is) = absurd r.0
  says_none s text (goes found, inr r, is) = absurd r.2.0

  module _ (taken taken' : Option (List ℕ)) (before now : ℕ) (s : Status) where
    usage_of : (c : Option Command) → Answers Judges (script_of table c) old new taken taken' before now s → s ≡ Usage → c ≡ None
    usage_of None a e = refl
    usage_of (Some c) (printed text x t f) e = absurd (says_usage c s text x e)
    usage_of (Some c) (unprinted status text x n t f w) e = absurd (cc)
    usage_of (Some c) (no_memory h t f w) e = absurd (cc)

    usage_said : Answers Judges (script_of table None) old new taken taken' before now s → IsVerdict s → s ≡ Usage
    usage_said (printed text x t f) v = says_none s text x
    usage_said (unprinted status text x n t f w) v = absurd (subst IsVerdict w v)
    usage_said (no_memory h t f w) v = absurd (subst IsVerdict w v)

pub usage_only : (table : Extern) (c : Option Command) (old new : World) (taken taken' : Option (List ℕ)) (before now : ℕ) (s : Status) → Answers Judges (script_of table c) old new taken taken' before now s → s ≡ Usage → c ≡ None
usage_only table c old new taken taken' before now s a e = usage_of table old new taken taken' before now s c a e

pub usage_for : (table : Extern) (c : Option Command) (old new : World) (taken taken' : Option (List ℕ)) (before now : ℕ) (s : Status) → Answers Judges (script_of table c) old new taken taken' before now s → c ≡ None → IsVerdict s → s ≡ Usage
usage_for table c old new taken taken' before now s a none v =
    usage_said table old new taken taken' before now s (subst (λ x. Answers Judges (script_of table x) old new taken taken' before now s) none a) v

-- no count of an outside that never fails has risen
pub no_rise : (P Q : List ℕ → Type 0) → ((name : List ℕ) × P name × (0 < 0) × Q name) ⊎ Rose 0 0 → ⊥
no_rise P Q (inl h) = let r = h.2 in absurd (omega (arith, r))
no_rise P Q (inr h) = absurd (omega (arith, h))

-- no command reads behind a write
pub reads_first : (table : Extern) (c : Option Command) → ReadsFirst (script_of table c).steps
reads_first table None = tt
reads_first table (Some (check file)) = tt
reads_first table (Some (build file text certificate)) = tt
reads_first table (Some (recheck file certificate)) = tt
reads_first table (Some (run file entry heap steps)) = tt
reads_first table (Some (gen n)) = tt

-- ---- from the words to the command

-- what was done for a command is done for the words that call for it
pub planned : (table : Extern) (d c : Option Command) → d ≡ c → (old new : World) (r : Result Report NoMemory) → Concludes Judges (script_of table d).line (script_of table d).steps (script_of table d).start old new r
    → Concludes Judges (script_of table c).line (script_of table c).steps (script_of table c).start old new r
planned table d c same old new r h = subst (λ x. Concludes Judges (script_of table x).line (script_of table x).steps (script_of table x).start old new r) same h

-- words that are no command are refused
pub usage_concludes : (table : Extern) (c : Option Command) → None ≡ c → (old : World) (r : Result Report NoMemory) → IfOk r (IsLine Usage usage_text) → Concludes Judges (script_of table c).line (script_of table c).steps (script_of table c).start old old r
usage_concludes table c same old r h = planned table None c same old old r (go r h)
  where
    go : (r : Result Report NoMemory) → IfOk r (IsLine Usage usage_text) → Concludes Judges (script_of table None).line (script_of table None).steps (script_of table None).start old old r
    go (Ok r) h = (refuses Usage usage_text, inl (tt, ((refl, refl), refl)), h)
    go (Err e) h = inl refl

-- ---- what `build` means by its line

-- a command went through all its steps, and what it printed
abbrev Finished : Extern → Option Command → World → World → Option (List ℕ) → Option (List ℕ) → Type 0
Finished table c old new taken taken' =
    (found : Found) × (text : List ℕ) × Runs Judges (script_of table c).steps (script_of table c).start old (goes found) new × (script_of table c).line found text × (taken' ≡ append_known taken text)

pub compiled : (table : Extern) (c : Option Command) (file text certificate : List ℕ) → c ≡ Some (build file text certificate) → (old new : World) (taken taken' : Option (List ℕ))
    → Finished table c old new taken taken'
    → (found : Found) × Runs Judges (reads_source file ∷ build_steps file text certificate) nothing old (goes found) new × IsCompiled (functions found) found.copies
compiled table c file text certificate is old new taken taken' h = let g = subst (λ x. Finished table x old new taken taken') is h in (g.0, g.2, g.3.1)
