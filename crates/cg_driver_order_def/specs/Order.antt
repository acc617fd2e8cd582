-- How files stand after each status of a command that reads a file, judges what it holds, and writes two files (docs/LANGUAGE.md, "Commands").
use Rattle.std.specs.Prelude.{◌≡◌, ◌⊎◌, ℕ, List, [], ◌∷◌, ⊤}
use Rattle.std.specs.declared.option.Option.{Option}
use Rattle.cg_outside.specs.Causes.{next_count}
use Rattle.cg_outside.specs.Held.{Held, HoldsPrefix, IsReadOf, with_file}
use Rattle.cg_driver_steps.specs.declared.status.Status.{Status}
use Rattle.cg_driver_steps.specs.declared.status.Status.TheVariants.{Done, WriteFault, Memory}
use Rattle.cg_driver_steps.specs.Scripts.{IsRuling}
use Rattle.cg_driver_steps.specs.Steps.{Outcome, refuses, goes, Step, reads, writes, judged_first, Settles}
use Rattle.cg_driver_steps.specs.World.{World}

-- a command that reads a file up to a limit, goes by these rules, and writes two files, with texts of what the rules found
pub record Pair (J S : Type 0) : Type 0 where
  pub file : List ℕ
  pub limit : ℕ
  pub keep : List ℕ → S → S
  pub rules : List J
  pub first : List ℕ
  pub first_text : S → List ℕ
  pub second : List ℕ
  pub second_text : S → List ℕ

-- its steps
abbrev pub pair_steps : {J S : Type 0} → Pair J S → List (Step J S)
pair_steps p = reads p.file p.limit p.keep ∷ judged_first p.rules (writes p.first p.first_text ∷ writes p.second p.second_text ∷ [])

-- no judgement refuses with a status that a fault, want of memory or the end of a command has
abbrev pub AreRulings : {J S : Type 0} → (J → S → Outcome S → Type 0) → Type 0
AreRulings {J = J} {S = S} Judges = (j : J) (state : S) (status : Status) (text : List ℕ) → Judges j state (refuses status text) → IsRuling status

-- what its rules went on to, over what the file holds
pub record Found {J S : Type 0} (Judges : J → S → Outcome S → Type 0) (p : Pair J S) (start : S) (held : Option Held) (found : S) : Type 0 where
  pub bytes : List ℕ
  pub read : IsReadOf held p.file p.limit bytes
  pub ruled : Settles Judges p.rules (p.keep bytes start) (goes found)

-- the files once the first was written, and once both were
abbrev pub with_first : {J S : Type 0} → Pair J S → S → Option Held → Option Held
with_first p found held = with_file held p.first (p.first_text found)

abbrev pub with_both : {J S : Type 0} → Pair J S → S → Option Held → Option Held
with_both p found held = with_file (with_first p found held) p.second (p.second_text found)

-- a write failed: the first file holds a prefix of its text, or the first its whole text and the second a prefix, and nothing else has changed
abbrev pub IsTorn : {J S : Type 0} → Pair J S → S → Option Held → Option Held → Type 0
IsTorn p found old new = HoldsPrefix p.first (p.first_text found) old new ⊎ HoldsPrefix p.second (p.second_text found) (with_first p found old) new

-- how the files stand where the steps came to a status
abbrev pub StandsAs : {J S : Type 0} → (J → S → Outcome S → Type 0) → Pair J S → S → Option Held → Option Held → Status → Type 0
StandsAs {S = S} Judges p start old new Done = (found : S) × Found Judges p start old found × (new ≡ with_both p found old)
StandsAs {S = S} Judges p start old new WriteFault = (found : S) × Found Judges p start old found × IsTorn p found old new
StandsAs Judges p start old new status = new ≡ old

-- how they stand after a status of the call, where the output's count of faults was before and is now
abbrev pub IsInOrder : {J S : Type 0} → (J → S → Outcome S → Type 0) → Pair J S → S → Option Held → Option Held → ℕ → ℕ → Status → Type 0
IsInOrder Judges p start old new before now WriteFault =
    (StandsAs Judges p start old new WriteFault × (now ≡ before))
    ⊎ ((status : Status) × StandsAs Judges p start old new status × (now ≡ next_count before))
IsInOrder {S = S} Judges p start old new before now Memory =
    (new ≡ old)
    ⊎ ((found : S) × Found Judges p start old found
    × ((new ≡ with_first p found old) ⊎ ((new ≡ with_both p found old) ⊎ IsTorn p found old new)))
IsInOrder Judges p start old new before now status = StandsAs Judges p start old new status
