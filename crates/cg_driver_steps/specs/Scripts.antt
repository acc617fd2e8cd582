-- What a command says and answers, and what it leaves, once for all commands (docs/LANGUAGE.md, "Commands").
use Rattle.std.specs.Prelude.{◌≡◌, ◌↔◌, ℕ, List, take, Option, ⊤}
use Rattle.std.specs.Io.KnownBytes.{append_known}
use Rattle.cg_outside.specs.Causes.{next_count}
use Rattle.cg_outside.specs.Held.{Held}
use Rattle.cg_driver_steps.specs.declared.status.Status.{Status}
use Rattle.cg_driver_steps.specs.declared.status.Status.TheVariants.{Done, ReadFault, WriteFault, Memory}
use Rattle.cg_driver_steps.specs.World.{World, calm}
use Rattle.cg_driver_steps.specs.Steps.{Outcome, refuses, goes, Step, Runs, Stops}

-- a command: its steps, the state before the first, and what is printed of the state after the last
pub record Script (J S : Type 0) : Type 1 where
  pub steps : List (Step J S)
  pub start : S
  pub line : S → List ℕ → Type 0

-- the status of an outcome, and what is printed
abbrev pub IsSaid : {S : Type 0} → (S → List ℕ → Type 0) → Outcome S → Status → List ℕ → Type 0
IsSaid line (refuses s t) status text = (status ≡ s) × (text ≡ t)
IsSaid line (goes state) status text = (status ≡ Done) × line state text

-- its status alone
abbrev pub HasStatus : {S : Type 0} → Outcome S → Status → Type 0
HasStatus (refuses s t) status = status ≡ s
HasStatus (goes state) status = status ≡ Done

-- what a command says, from a world to a world: the outcome of its steps
abbrev pub Says : {J S : Type 0} → (J → S → Outcome S → Type 0) → Script J S → World → World → Status → List ℕ → Type 0
Says {S = S} Judges c old new status text = (outcome : Outcome S) × Runs Judges c.steps c.start old outcome new × IsSaid c.line outcome status text

-- what a command leaves: it went through some of its steps, the last of which may have refused
abbrev pub Leaves : {J S : Type 0} → (J → S → Outcome S → Type 0) → Script J S → World → World → Type 0
Leaves Judges c old new = Stops Judges c.steps c.start old new

-- What a command answers, where the output held taken and holds taken' and its count of faults was before and is now: what is said is
-- printed by one write; or that write failed after a part of the text; or memory ran out, and nothing is printed.
pub data Answers {J S : Type 0} (Judges : J → S → Outcome S → Type 0) (c : Script J S) (old new : World) (taken taken' : Option (List ℕ)) (before now : ℕ) (result : Status) : Type 0 where
  printed : (text : List ℕ) → Says Judges c old new result text → taken' ≡ append_known taken text → now ≡ before → Answers Judges c old new taken taken' before now result
  unprinted : (status : Status) (text : List ℕ) → Says Judges c old new status text → (n : ℕ) → taken' ≡ append_known taken (take n text) → now ≡ next_count before
      → result ≡ WriteFault → Answers Judges c old new taken taken' before now result
  no_memory : Leaves Judges c old new → taken' ≡ taken → now ≡ before → result ≡ Memory → Answers Judges c old new taken taken' before now result

-- what a command says over these files, where no call fails
abbrev pub Comes : {J S : Type 0} → (J → S → Outcome S → Type 0) → Script J S → Held → Status → List ℕ → Type 0
Comes Judges c held status text = (after : Held) × Says Judges c (calm held) (calm after) status text

-- the status that its steps come to over these files, where no call fails
abbrev pub ComesTo : {J S : Type 0} → (J → S → Outcome S → Type 0) → Script J S → Held → Status → Type 0
ComesTo {S = S} Judges c held status = (outcome : Outcome S) × (after : Held) × Runs Judges c.steps c.start (calm held) outcome (calm after) × HasStatus outcome status

-- a status that neither a fault nor want of memory decided
abbrev pub IsVerdict : Status → Type 0
IsVerdict ReadFault = ⊥
IsVerdict WriteFault = ⊥
IsVerdict Memory = ⊥
IsVerdict status = ⊤

-- a status that a judgement may refuse with
abbrev pub IsRuling : Status → Type 0
IsRuling Done = ⊥
IsRuling ReadFault = ⊥
IsRuling WriteFault = ⊥
IsRuling Memory = ⊥
IsRuling status = ⊤

-- a status is one exactly where this says so
abbrev pub Decides : (Status → Type 0) → Status → Type 0
Decides Comes status = (s : Status) → (status ≡ s) ↔ Comes s
