-- From what was put into a store, and what the machine answers on it, to what is said of the program.
use Rattle.std.proofs.Common.{◌≡◌, ℕ, List, Result, Ok, Err, sym, ap, ◌∙◌, subst}
use Rattle.cg_cmachine.specs.Answers.{EndsAs}
use Rattle.cg_cmachine.specs.declared.answer.Ran.{Ran}
use Rattle.cg_cmachine_def.specs.Outcomes.{needs, stuck}
use Rattle.cg_cmachine_def.specs.Runs.{Linked, crun}
use Rattle.cg_cread.specs.Answers.{Answers}
use Rattle.cg_ctree.specs.declared.tree.CProgram.{CProgram}
use Rattle.cg_ctree.specs.declared.why.Why.{Why}
use Rattle.cg_ctree.specs.Trees.{program_of}
use Rattle.cg_flat.specs.Flat.{Flat}
use Rattle.cg_heap.specs.declared.cell.Cell.{Cell}
use Rattle.cg_heap.specs.declared.cell.Scalar.{Scalar}
use Rattle.cg_heap.specs.Stored.{Stored}
use Rattle.cg_heaptext.specs.Filled.{IsFilled}
use Rattle.cg_driver_text.specs.declared.text.TextFault.{TextFault}
use Rattle.cg_driver_text.specs.declared.text.TextFault.TheVariants.{Text, Stuck, Budget, Memory}
use Rattle.cg_driver_text.specs.Filled.{filled, no_cells, unlinked}
use Rattle.cg_driver_text.specs.Texts.{ProgramRuns, TextRuns}
use Rattle.cg_driver_text.proofs.Begun.{filled_is}

module _ (linked : Linked) (name : List ℕ) (us : List Scalar) (cs : List (ℕ × Cell)) (most : ℕ) (s after : Stored) (f : IsFilled cs s) where
  -- a run from a store that the cells were put into is one from the cells
  run_from : crun linked most name us s ≡ crun linked most name us (filled cs no_cells)
  run_from = ap (crun linked most name us) (filled_is cs s f)

  pub ends_from : (ran : Ran) → EndsAs (crun linked most name us s) most after ran → EndsAs (crun linked most name us (filled cs no_cells)) most after ran
  ends_from ran e = subst (λ o. EndsAs o most after ran) run_from e

  pub stuck_from : (why : Why) → crun linked most name us s ≡ stuck why after → (z : Stored) × (crun linked most name us (filled cs no_cells) ≡ stuck why z)
  stuck_from why e = (after, sym run_from ∙ e)

  pub short_from : crun linked most name us s ≡ needs after → (z : Stored) × (crun linked most name us (filled cs no_cells) ≡ needs z)
  short_from e = (after, sym run_from ∙ e)

-- what is said of the program that was read is said of the text
pub said_of_text : (bytes name : List ℕ) (us : List Scalar) (m : Stored) (most : ℕ) (program : CProgram) → Answers bytes (Ok program) → (r : Result (Ran × Flat) TextFault)
    → ProgramRuns (unlinked (program_of program)) name us m most r → TextRuns bytes name us m most r
said_of_text bytes name us m most program read (Ok r) runs = record { program = program_of program; spelled = read.0; only = read.1; runs = runs }
said_of_text bytes name us m most program read (Err (Text place)) runs = absurd runs
said_of_text bytes name us m most program read (Err (Stuck why)) runs = record { program = program_of program; spelled = read.0; only = read.1; runs = runs }
said_of_text bytes name us m most program read (Err Budget) runs = record { program = program_of program; spelled = read.0; only = read.1; runs = runs }
said_of_text bytes name us m most program read (Err Memory) runs = tt
