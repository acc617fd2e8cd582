-- Commands as lists of steps: the first step that refuses decides (docs/LANGUAGE.md, "Commands"). A state is what the steps before have
-- found, and a judgement is what a language says of a state; which outcome each judgement has is handed in.
use Rattle.std.specs.Prelude.{◌≡◌, ℕ, ◌≤◌, List, [], ◌∷◌, ◌++◌, codes, ◌⊎◌, ⊤}
use Rattle.cg_outside.specs.Held.{IsReadOf}
use Rattle.cg_driver_steps.specs.declared.status.Status.{Status}
use Rattle.cg_driver_steps.specs.declared.status.Status.TheVariants.{ReadFault, WriteFault}
use Rattle.cg_driver_steps.specs.World.{World, AfterNoRead, AfterWrite, AfterNoWrite}

-- what a step, or a list of them, comes to: it refuses, with a status and what is printed, or it goes on in a state
pub data Outcome (S : Type 0) : Type 0 where
  refuses : Status → List ℕ → Outcome S
  goes : S → Outcome S

abbrev pub IsRefusal : {S : Type 0} → Outcome S → Type 0
IsRefusal (refuses status text) = ⊤
IsRefusal (goes state) = ⊥

-- a step: a read of a file up to a limit, and what its bytes add to the state; a judgement of the state; a write of a file, with a text of
-- the state
pub data Step (J S : Type 0) : Type 0 where
  reads : List ℕ → ℕ → (List ℕ → S → S) → Step J S
  judges : J → Step J S
  writes : List ℕ → (S → List ℕ) → Step J S

-- the lines of a file that can't be read or written
abbrev pub unread_line : List ℕ → List ℕ
unread_line name = name ++ codes ": cannot be read\n"

abbrev pub unwritten_line : List ℕ → List ℕ
unwritten_line name = name ++ codes ": cannot be written\n"

-- what a step does, from a state and a world to an outcome and a world
abbrev pub Does : {J S : Type 0} → (J → S → Outcome S → Type 0) → Step J S → S → World → Outcome S → World → Type 0
Does Judges (reads name limit keep) state old (refuses status text) new = (status ≡ ReadFault) × (text ≡ unread_line name) × AfterNoRead name old new
Does Judges (reads name limit keep) state old (goes next) new = (bytes : List ℕ) × IsReadOf old.held name limit bytes × (next ≡ keep bytes state) × (new ≡ old)
Does Judges (judges j) state old outcome new = Judges j state outcome × (new ≡ old)
Does Judges (writes name text) state old (refuses status line) new = (status ≡ WriteFault) × (line ≡ unwritten_line name) × AfterNoWrite name (text state) old new
Does Judges (writes name text) state old (goes next) new = (next ≡ state) × AfterWrite name (text state) old new

-- what a list of steps does: the first that refuses decides, and no step after it is reached
abbrev pub Runs : {J S : Type 0} → (J → S → Outcome S → Type 0) → List (Step J S) → S → World → Outcome S → World → Type 0
Runs Judges [] state old outcome new = (outcome ≡ goes state) × (new ≡ old)
Runs {S = S} Judges (step ∷ steps) state old outcome new =
    (IsRefusal outcome × Does Judges step state old outcome new)
    ⊎ ((next : S) × (between : World) × Does Judges step state old (goes next) between × Runs Judges steps next between outcome new)

-- where memory may have run out among these steps: before the first, or once it refused, or later
abbrev pub Stops : {J S : Type 0} → (J → S → Outcome S → Type 0) → List (Step J S) → S → World → World → Type 0
Stops Judges [] state old new = new ≡ old
Stops {S = S} Judges (step ∷ steps) state old new =
    (new ≡ old)
    ⊎ (((outcome : Outcome S) × IsRefusal outcome × Does Judges step state old outcome new)
    ⊎ ((next : S) × (between : World) × Does Judges step state old (goes next) between × Stops Judges steps next between new))

-- what a list of judgements comes to, where no step between them reads or writes
abbrev pub Settles : {J S : Type 0} → (J → S → Outcome S → Type 0) → List J → S → Outcome S → Type 0
Settles Judges [] state outcome = outcome ≡ goes state
Settles {S = S} Judges (j ∷ js) state outcome =
    (IsRefusal outcome × Judges j state outcome) ⊎ ((next : S) × Judges j state (goes next) × Settles Judges js next outcome)

-- these judgements as steps, before others
abbrev pub judged_first : {J S : Type 0} → List J → List (Step J S) → List (Step J S)
judged_first [] steps = steps
judged_first (j ∷ js) steps = judges j ∷ judged_first js steps

-- a step of these reads this file
abbrev pub Reads : {J S : Type 0} → List (Step J S) → List ℕ → Type 0
Reads [] file = ⊥
Reads (reads name limit keep ∷ steps) file = (file ≡ name) ⊎ Reads steps file
Reads (judges j ∷ steps) file = Reads steps file
Reads (writes name text ∷ steps) file = Reads steps file

-- a step of these writes this file
abbrev pub Writes : {J S : Type 0} → List (Step J S) → List ℕ → Type 0
Writes [] file = ⊥
Writes (reads name limit keep ∷ steps) file = Writes steps file
Writes (judges j ∷ steps) file = Writes steps file
Writes (writes name text ∷ steps) file = (file ≡ name) ⊎ Writes steps file

-- no step of these writes
abbrev pub WritesNone : {J S : Type 0} → List (Step J S) → Type 0
WritesNone [] = ⊤
WritesNone (reads name limit keep ∷ steps) = WritesNone steps
WritesNone (judges j ∷ steps) = WritesNone steps
WritesNone (writes name text ∷ steps) = ⊥

-- no step of these reads; and none does behind one that writes
abbrev pub ReadsNone : {J S : Type 0} → List (Step J S) → Type 0
ReadsNone [] = ⊤
ReadsNone (reads name limit keep ∷ steps) = ⊥
ReadsNone (judges j ∷ steps) = ReadsNone steps
ReadsNone (writes name text ∷ steps) = ReadsNone steps

abbrev pub ReadsFirst : {J S : Type 0} → List (Step J S) → Type 0
ReadsFirst [] = ⊤
ReadsFirst (reads name limit keep ∷ steps) = ReadsFirst steps
ReadsFirst (judges j ∷ steps) = ReadsFirst steps
ReadsFirst (writes name text ∷ steps) = ReadsNone steps

-- no count rose of the reads and writes that these steps name
abbrev pub IsCalm : {J S : Type 0} → List (Step J S) → World → World → Type 0
IsCalm [] old new = ⊤
IsCalm (reads name limit keep ∷ steps) old new = (new.reads name ≤ old.reads name) × IsCalm steps old new
IsCalm (judges j ∷ steps) old new = IsCalm steps old new
IsCalm (writes name text ∷ steps) old new = (new.writes name ≤ old.writes name) × IsCalm steps old new

-- each judgement among these steps is such a one
abbrev pub Each : {J S : Type 0} → (J → Type 0) → List (Step J S) → Type 0
Each P [] = ⊤
Each P (reads name limit keep ∷ steps) = Each P steps
Each P (judges j ∷ steps) = P j × Each P steps
Each P (writes name text ∷ steps) = Each P steps
