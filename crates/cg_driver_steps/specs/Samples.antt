-- Two commands that there aren't, to show that the clauses hold of commands of other shapes: one reads a file and writes it to two others, and
-- one reads three files.
use Rattle.std.specs.Prelude.{◌≡◌, ℕ, ◌<◌, ◌≤◌, List, [], ◌∷◌, length, take, codes, Option, Some, ◌⊎◌}
use Rattle.std.specs.FinMap.{insert}
use Rattle.std.specs.Io.KnownBytes.{append_known}
use Rattle.cg_outside.specs.Causes.{Rose}
use Rattle.cg_outside.specs.Failures.{OneMore}
use Rattle.cg_outside.specs.Held.{Held, bytes_at}
use Rattle.cg_driver_steps.specs.declared.status.Status.{Status}
use Rattle.cg_driver_steps.specs.declared.status.Status.TheVariants.{ReadFault, WriteFault, Memory, TooLarge}
use Rattle.cg_driver_steps.specs.World.{World, world, Unwritten}
use Rattle.cg_driver_steps.specs.Steps.{Outcome, refuses, goes, reads, judges, writes, unread_line, unwritten_line, IsCalm}
use Rattle.cg_driver_steps.specs.Scripts.{Script, Says, Leaves, Answers, ComesTo, IsVerdict, Decides}

-- the bytes that were read, the last first
abbrev pub Texts : Type 0
Texts = List (List ℕ)

abbrev pub latest : Texts → List ℕ
latest [] = []
latest (bytes ∷ texts) = bytes

abbrev pub keep : List ℕ → Texts → Texts
keep bytes texts = bytes ∷ texts

-- the one judgement: what was read last has at most so many bytes
pub data Question : Type 0 where
  short : ℕ → Question

abbrev pub too_long : List ℕ
too_long = codes "limit: length\n"

abbrev pub Finds : Question → Texts → Outcome Texts → Type 0
Finds (short most) texts (refuses status text) = (status ≡ TooLarge) × (text ≡ too_long) × (most < length (latest texts))
Finds (short most) texts (goes next) = (next ≡ texts) × (length (latest texts) ≤ most)

-- the two commands
abbrev pub copied : Texts → List ℕ → Type 0
copied texts text = text ≡ codes "copied\n"

abbrev pub copy_twice : List ℕ → List ℕ → List ℕ → Script Question Texts
copy_twice file left right = record { steps = reads file 8 keep ∷ judges (short 8) ∷ writes left latest ∷ writes right latest ∷ []; start = []; line = copied }

abbrev pub join_three : List ℕ → List ℕ → List ℕ → Script Question Texts
join_three a b c = record { steps = reads a 8 keep ∷ reads b 8 keep ∷ reads c 8 keep ∷ judges (short 8) ∷ []; start = []; line = λ texts text. text ≡ latest texts }

-- The second write fails after n bytes: status 4 with its line; the first file is whole, the second holds what was written of it, and its
-- count alone rose.
abbrev pub SecondWriteFails : Type 0
SecondWriteFails = (held : Held) (reads writes writes' : List ℕ → ℕ) (file left right : List ℕ) (n : ℕ) → length (bytes_at held file) ≤ 8 → OneMore right writes writes'
    → Says Finds (copy_twice file left right) (world (Some held) reads writes)
    (world (Some (insert (insert held left (bytes_at held file)) right (take n (bytes_at held file)))) reads writes') WriteFault (unwritten_line right)

-- Memory runs out between the two writes: the first file is whole, and nothing else has changed.
abbrev pub StopsBetween : Type 0
StopsBetween = (held : Held) (reads writes : List ℕ → ℕ) (file left right : List ℕ) → length (bytes_at held file) ≤ 8
    → Leaves Finds (copy_twice file left right) (world (Some held) reads writes) (world (Some (insert held left (bytes_at held file))) reads writes)

-- What was read is too long: status 9, and no file is written.
abbrev pub RefusesLong : Type 0
RefusesLong = (held : Held) (reads writes : List ℕ → ℕ) (file left right : List ℕ) → 8 < length (bytes_at held file)
    → Says Finds (copy_twice file left right) (world (Some held) reads writes) (world (Some held) reads writes) TooLarge too_long

-- The third read fails: status 3 with its line, and its count alone rose.
abbrev pub ThirdReadFails : Type 0
ThirdReadFails = (held : Held) (reads reads' writes : List ℕ → ℕ) (a b c : List ℕ) → OneMore c reads reads'
    → Says Finds (join_three a b c) (world (Some held) reads writes) (world (Some held) reads' writes) ReadFault (unread_line c)

-- The clauses of a call hold of both commands: where neither a fault nor want of memory decides, the status is the one that the steps come
-- to; status 4 comes only where a write of the command, or that to the output, failed; and a command that writes no file leaves all.
abbrev pub ClausesHold : Type 0
ClausesHold = (file left right : List ℕ) (old new : World) (taken taken' : Option (List ℕ)) (before now : ℕ) (result : Status)
    → (Answers Finds (copy_twice file left right) old new taken taken' before now result → (held : Held) → old.held ≡ Some held → IsVerdict result
    → Decides (ComesTo Finds (copy_twice file left right) held) result)
    × (Answers Finds (copy_twice file left right) old new taken taken' before now result → result ≡ WriteFault
    → ((name : List ℕ) × ((name ≡ left) ⊎ ((name ≡ right) ⊎ ⊥)) × (old.writes name < new.writes name) × (taken' ≡ append_known taken (unwritten_line name))) ⊎ Rose before now)
    × (Answers Finds (join_three file left right) old new taken taken' before now result → Unwritten old new)
    × (Answers Finds (join_three file left right) old new taken taken' before now result → (held : Held) (status : Status) → old.held ≡ Some held
    → IsCalm (join_three file left right).steps old new → (Rose before now → ⊥) → ComesTo Finds (join_three file left right) held status → (result ≡ status) ⊎ (result ≡ Memory))
