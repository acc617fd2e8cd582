-- What the functions for single steps, and for some of a command's steps, say, as the code has them.
use Rattle.std.specs.Prelude.{◌≡◌, ℕ, List, take, Option, Ok, Err, Vec, ◌⊎◌}
use Rattle.std.specs.Io.KnownBytes.{append_known}
use Rattle.std.specs.declared.alloc.Global.{Global}
use Rattle.std.specs.declared.result.Result.{Result}
use Rattle.cg_base.specs.declared.memory.Memory.{Memory}
use Rattle.cg_outside.specs.Causes.{next_count}
use Rattle.cg_outside.specs.Held.{IsReadOf}
use Rattle.cg_driver_steps.specs.declared.report.Report.{Report}
use Rattle.cg_driver_steps.specs.declared.report.Step.{Step as Taken}
use Rattle.cg_driver_steps.specs.declared.report.Step.TheVariants.{Goes, Ends}
use Rattle.cg_driver_steps.specs.declared.status.Status.{Status}
use Rattle.cg_driver_steps.specs.declared.status.Status.TheVariants.{ReadFault, WriteFault, Memory as NoMemory}
use Rattle.cg_driver_steps.specs.World.{World, AfterNoRead, AfterWrite, AfterNoWrite}
use Rattle.cg_driver_steps.specs.Steps.{Outcome, refuses, goes, Step, unread_line, unwritten_line, Runs, Stops, Settles}
use Rattle.cg_driver_steps.specs.Scripts.{IsSaid}

-- a report has this status and this text
abbrev pub IsLine : Status → List ℕ → Report → Type 0
IsLine status line r = (r.status ≡ status) × (r.text.items ≡ line)

-- what is said of a report
abbrev pub Reports : (Status → List ℕ → Type 0) → Report → Type 0
Reports Says r = Says r.status r.text.items

-- a step goes on with something of which this holds, or ends with a report that says so much
abbrev pub Steps : {T : Type 0} → (T → Type 0) → (Status → List ℕ → Type 0) → Taken T → Type 0
Steps P Says (Goes x) = P x
Steps P Says (Ends r) = Reports Says r

-- what a read did: its bytes are in hand, or it failed and that is said, or memory ran out before it or once it had failed
abbrev pub HasRead : List ℕ → ℕ → World → World → Result (Taken (Vec ℕ Global)) Memory → Type 0
HasRead name limit old new (Ok (Goes bytes)) = IsReadOf old.held name limit bytes.items × (new ≡ old)
HasRead name limit old new (Ok (Ends r)) = IsLine ReadFault (unread_line name) r × AfterNoRead name old new
HasRead name limit old new (Err e) = (new ≡ old) ⊎ AfterNoRead name old new

-- what a write did
abbrev pub HasWritten : List ℕ → List ℕ → World → World → Result (Taken Unit) Memory → Type 0
HasWritten name bytes old new (Ok (Goes x)) = AfterWrite name bytes old new
HasWritten name bytes old new (Ok (Ends r)) = IsLine WriteFault (unwritten_line name) r × AfterNoWrite name bytes old new
HasWritten name bytes old new (Err e) = (new ≡ old) ⊎ AfterNoWrite name bytes old new

-- What the one write to the output leaves, and the status after it: the text was taken, or the write failed after a part of it, or memory
-- ran out.
abbrev pub HasPrinted : Status → List ℕ → Option (List ℕ) → Option (List ℕ) → ℕ → ℕ → Status → Type 0
HasPrinted status text taken taken' before now result = ((result ≡ status) × (taken' ≡ append_known taken text) × (now ≡ before))
    ⊎ (((result ≡ WriteFault) × (n : ℕ) × (taken' ≡ append_known taken (take n text)) × (now ≡ next_count before))
    ⊎ ((result ≡ NoMemory) × (taken' ≡ taken) × (now ≡ before)))

-- what a function for some steps did, where Keeps tells which states its value stands for
abbrev pub Leads : {J S T : Type 0} → (J → S → Outcome S → Type 0) → (T → S → Type 0) → List (Step J S) → S → World → World → Result (Taken T) Memory → Type 0
Leads {S = S} Judges Keeps steps from old new (Ok (Goes x)) = (next : S) × Runs Judges steps from old (goes next) new × Keeps x next
Leads Judges Keeps steps from old new (Ok (Ends r)) = Runs Judges steps from old (refuses r.status r.text.items) new
Leads Judges Keeps steps from old new (Err e) = Stops Judges steps from old new

-- the same of judgements, which see no world
abbrev pub Judged : {J S T : Type 0} → (J → S → Outcome S → Type 0) → (T → S → Type 0) → List J → S → Result (Taken T) Memory → Type 0
Judged {S = S} Judges Keeps js from (Ok (Goes x)) = (next : S) × Settles Judges js from (goes next) × Keeps x next
Judged Judges Keeps js from (Ok (Ends r)) = Settles Judges js from (refuses r.status r.text.items)
Judged Judges Keeps js from (Err e) = Unit {0}

-- what a function for the last steps of a command says
abbrev pub Concludes : {J S : Type 0} → (J → S → Outcome S → Type 0) → (S → List ℕ → Type 0) → List (Step J S) → S → World → World → Result Report Memory → Type 0
Concludes {S = S} Judges line steps from old new (Ok r) = (outcome : Outcome S) × Runs Judges steps from old outcome new × IsSaid line outcome r.status r.text.items
Concludes Judges line steps from old new (Err e) = Stops Judges steps from old new

-- the same of judgements, which see no world
abbrev pub Rules : {J S : Type 0} → (J → S → Outcome S → Type 0) → (S → List ℕ → Type 0) → List J → S → Result Report Memory → Type 0
Rules {S = S} Judges line js from (Ok r) = (outcome : Outcome S) × Settles Judges js from outcome × IsSaid line outcome r.status r.text.items
Rules Judges line js from (Err e) = Unit {0}
