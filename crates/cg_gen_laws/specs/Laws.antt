-- What the command `gen` comes to (docs/LANGUAGE.md, "Generator" and "Commands").
use Rattle.std.specs.Prelude.{◌≡◌, ◌⊎◌, ℕ, ◌≤◌, List, length, Option, Some}
use Rattle.cg_driver.specs.Accepted.{IsAcceptedSource}
use Rattle.cg_driver.specs.Commands.{Judges, script_of}
use Rattle.cg_driver.specs.Externs.{Extern}
use Rattle.cg_driver.specs.Found.{Found, functions as functions_found}
use Rattle.cg_driver_steps.specs.declared.status.Status.{Status}
use Rattle.cg_driver_steps.specs.declared.status.Status.TheVariants.{Done, Memory, WriteFault}
use Rattle.cg_driver_steps.specs.Scripts.{Answers}
use Rattle.cg_driver_steps.specs.Steps.{Outcome, Runs, goes}
use Rattle.cg_driver_steps.specs.World.{World}
use Rattle.cg_driver_words.specs.Words.{gen}
use Rattle.cg_gen.specs.Generated.{source as generated}
use Rattle.cg_gen_def.specs.Kernels.{functions}
use Rattle.cg_gen_def.specs.Results.{cell_after, cost_of}
use Rattle.cg_outside.specs.Causes.{next_count}

-- A state in which the generated source is accepted, and has so many functions and so many instances, and in which evaluation of the last function
-- on the cell of the heap file gave the cell with its number, at cost 12 n - 2.
pub record GivesMade (n : ℕ) (found : Found) : Type 0 where
  pub source : found.source ≡ generated n
  pub accepted : IsAcceptedSource found.source (functions_found found)
  pub kernel : functions_found found ≡ functions n
  pub count : length (functions_found found) ≡ n
  pub instances : length found.copies ≡ n
  pub value : found.value ≡ cell_after n
  pub cost : found.cost ≡ cost_of n

-- The steps of `gen` go to such a state, over any table of abstract functions and in any world, which stays.
abbrev pub GenGoes : Type 0
GenGoes =
    (table : Extern) (n : ℕ) → 1 ≤ n → n ≤ 4096 → (world : World)
    → (found : Found) × Runs Judges (script_of table (Some (gen n))).steps (script_of table (Some (gen n))).start world (goes found) world × GivesMade n found

-- Whatever its steps come to is this: they refuse nothing.
abbrev pub GenIsNeverRefused : Type 0
GenIsNeverRefused =
    (table : Extern) (n : ℕ) → 1 ≤ n → n ≤ 4096 → (old new : World) (outcome : Outcome Found)
    → Runs Judges (script_of table (Some (gen n))).steps (script_of table (Some (gen n))).start old outcome new
    → (found : Found) × (outcome ≡ goes found) × GivesMade n found × (new ≡ old)

-- A call of `gen` answers status 0, or status 4 where its one write to the output failed, or that memory ran out.
abbrev pub GenAnswers : Type 0
GenAnswers =
    (table : Extern) (n : ℕ) → 1 ≤ n → n ≤ 4096
    → (old new : World) (taken taken' : Option (List ℕ)) (before now : ℕ) (status : Status)
    → Answers Judges (script_of table (Some (gen n))) old new taken taken' before now status
    → (status ≡ Done) ⊎ (((status ≡ WriteFault) × (now ≡ next_count before)) ⊎ (status ≡ Memory))
