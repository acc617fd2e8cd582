-- What a run of a function of a C text on a flat store answers, and why (docs/LANGUAGE.md, "The C subset" and "Flat stores").
use Rattle.std.specs.Prelude.{◌≡◌, ℕ, List, Result, Ok, Err}
use Rattle.cg_cmachine.specs.Answers.{EndsAs}
use Rattle.cg_cmachine.specs.declared.answer.Ran.{Ran}
use Rattle.cg_cmachine_def.specs.Outcomes.{needs, stuck}
use Rattle.cg_cmachine_def.specs.Runs.{Linked, crun}
use Rattle.cg_cread.specs.Answers.{Answers}
use Rattle.cg_cread.specs.declared.fault.CFault.TheVariants as reading
use Rattle.cg_ctree.specs.Spells.{CSpells}
use Rattle.cg_ctree.specs.Trees.{Program}
use Rattle.cg_flat.specs.Flat.{Flat, stored_of}
use Rattle.cg_heap.specs.declared.cell.Scalar.{Scalar}
use Rattle.cg_heap.specs.Stored.{Stored}
use Rattle.cg_driver_text.specs.declared.text.TextFault.{TextFault}
use Rattle.cg_driver_text.specs.declared.text.TextFault.TheVariants.{Text, Stuck, Budget, Memory}
use Rattle.cg_driver_text.specs.Filled.{unlinked}

-- A run of a program's function, in at most so many steps, on scalars and from a heap: what it gives, and the store that it leaves, exactly where it
-- ends; why it is stuck exactly where it is; that it needs more steps exactly where it does; and want of memory is free.
abbrev pub ProgramRuns : Linked → List ℕ → List Scalar → Stored → ℕ → Result (Ran × Flat) TextFault → Type 0
ProgramRuns linked name us m most (Ok r) = EndsAs (crun linked most name us m) most (stored_of r.1) r.0
ProgramRuns linked name us m most (Err (Text place)) = ⊥
ProgramRuns linked name us m most (Err (Stuck why)) = (after : Stored) × (crun linked most name us m ≡ stuck why after)
ProgramRuns linked name us m most (Err Budget) = (after : Stored) × (crun linked most name us m ≡ needs after)
ProgramRuns linked name us m most (Err Memory) = Unit {0}

-- that of the one program that bytes spell
pub record SpelledRuns (bytes name : List ℕ) (us : List Scalar) (m : Stored) (most : ℕ) (r : Result (Ran × Flat) TextFault) : Type 0 where
  pub program : Program
  pub spelled : CSpells bytes program
  pub only : (q : Program) → CSpells bytes q → q ≡ program
  pub runs : ProgramRuns (unlinked program) name us m most r

-- What a run of a text answers: the place at which reading fails, exactly where the bytes spell no program; and otherwise what the program gives.
abbrev pub TextRuns : List ℕ → List ℕ → List Scalar → Stored → ℕ → Result (Ran × Flat) TextFault → Type 0
TextRuns bytes name us m most (Ok r) = SpelledRuns bytes name us m most (Ok r)
TextRuns bytes name us m most (Err (Text place)) = Answers bytes (Err (reading.Text place))
TextRuns bytes name us m most (Err (Stuck why)) = SpelledRuns bytes name us m most (Err (Stuck why))
TextRuns bytes name us m most (Err Budget) = SpelledRuns bytes name us m most (Err Budget)
TextRuns bytes name us m most (Err Memory) = Unit {0}
