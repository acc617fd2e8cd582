-- Which sources are accepted, and which certificates.
use Rattle.std.specs.FinMap.{insert}
use Rattle.std.specs.Prelude.{◌≡◌, ◌⊎◌, ℕ, ◌≤◌, true, List, length, map, slice_get, Option, Some}
use Rattle.cg_cert.specs.Certificates.{certificate}
use Rattle.cg_cert.specs.declared.cert.Cert.{Cert}
use Rattle.cg_cert.specs.Texts.{CertText, text as text_of}
use Rattle.cg_certcheck_laws.specs.Laws.{SpellsDerivation}
use Rattle.cg_check.specs.Judged.{IsChecked}
use Rattle.cg_faults.specs.Fails.{AreTypesWithin}
use Rattle.cg_core.specs.Kernels.{Function, kernel_of}
use Rattle.cg_resolve_def.specs.Desugar.{functions_of, NamesStand, WithinLimits}
use Rattle.cg_parser_def.specs.Grammar.{Spells}
use Rattle.cg_parser_def.specs.Bounded.{depth_limit}
use Rattle.cg_surface.specs.Programs.{Entry, program_depth}
use Rattle.cg_typing.specs.Accepted.{IsAcceptedKernel}
use Rattle.cg_typing.specs.declared.checked.Checked.{Checked}
use Rattle.cg_typing.specs.Holds.{kernel_in, trees_in}
use Rattle.cg_typing.specs.Kept.{maybe_tree}
use Rattle.cg_outside.specs.Held.{Held, bytes_at}
use Rattle.cg_driver_steps.specs.Steps.{Runs, Writes, WritesNone, goes}
use Rattle.cg_driver_steps.specs.World.{World}
use Rattle.cg_lower.specs.Collected.{Copy}
use Rattle.cg_driver_words.specs.Words.{Command, build}
use Rattle.cg_driver_entry.specs.Entries.{ReachesAbstract}
use Rattle.cg_value.specs.Values.{Val}
use Rattle.cg_driver.specs.Commands.{HoldsArgument, Judges, entry_at, script_of}
use Rattle.cg_driver.specs.Externs.{Extern}
use Rattle.cg_driver.specs.Entered.{argument_type, is_entry}
use Rattle.cg_driver.specs.Run.{Evaluates}
use Rattle.cg_driver.specs.Found.{Argument, Found, certificate_limit, functions, heap_limit, source_limit}
use Rattle.cg_driver.specs.Instanced.{HasInstances, certified_text, emitted}

-- the source spells a program within the depth whose names are in order, and in which all that is written is within its limits
pub record HasKernel (source : List ℕ) (p : List Entry) : Type 0 where
  pub spelled : Spells source p
  pub shallow : program_depth p ≤ depth_limit
  pub names : NamesStand p
  pub limits : WithinLimits p

-- A source is accepted: it spells a program whose names are in order, and the typing rules derive each function of its kernel. No limit plays
-- a part in it.
pub record Accepted (source : List ℕ) : Type 0 where
  pub program : List Entry
  pub spelled : Spells source program
  pub names : NamesStand program
  pub typed : IsAcceptedKernel (functions_of program)

-- a source and the program that it spells are within the limits: its length, its depth, what is written in it, and the types of the nodes of
-- its bodies
pub record IsWithinLimits (source : List ℕ) (p : List Entry) : Type 0 where
  pub short : length source ≤ source_limit
  pub shallow : program_depth p ≤ depth_limit
  pub written : WithinLimits p
  pub types : AreTypesWithin (functions_of p)

-- a source is accepted and within the limits, and this is its kernel
pub record IsAcceptedSource (source : List ℕ) (functions : List Function) : Type 0 where
  pub accepted : Accepted source
  pub limits : IsWithinLimits source accepted.program
  pub kernel : functions ≡ functions_of accepted.program

-- the text of a certificate within the limits spells a derivation of the source, which is within its own: its nodes and marks are those of
-- derivations, with any splits, of the functions of the program that the source spells
pub record IsCertifiedSource (source text : List ℕ) : Type 0 where
  pub program : List Entry
  pub cert : Cert
  pub short : length source ≤ source_limit
  pub resolved : HasKernel source program
  pub brief : length text ≤ certificate_limit
  pub written : CertText text cert
  pub spells : SpellsDerivation (functions_of program) cert
  pub within : AreTypesWithin (functions_of program)

-- the text of the certificate of what is kept of a source
abbrev pub certificate_text : Checked → List ℕ
certificate_text checked = text_of (certificate (kernel_of (kernel_in checked)) (map maybe_tree (trees_in checked)))

-- a source is accepted within the limits, its instances are within theirs, and the text of its certificate within its own
pub record IsBuildable (source : List ℕ) : Type 0 where
  pub kernel : List Function
  pub copies : List Copy
  pub accepted : IsAcceptedSource source kernel
  pub instances : HasInstances kernel copies
  pub brief : length (certified_text kernel) ≤ certificate_limit

-- a source has an entry that may be run, its heap file holds an argument of it, and evaluation over a table ends within the steps with this value
-- at this cost
pub record IsRunnable (table : Extern) (source entry heap : List ℕ) (steps : ℕ) : Type 0 where
  pub kernel : List Function
  pub copies : List Copy
  pub at : ℕ
  pub argument : Argument
  pub value : Val
  pub cost : ℕ
  pub accepted : IsAcceptedSource source kernel
  pub instances : HasInstances kernel copies
  pub named : entry_at entry kernel ≡ Some at
  pub allowed : is_entry (slice_get kernel at) ≡ true
  pub concrete : ReachesAbstract kernel at → ⊥
  pub short : length heap ≤ heap_limit
  pub holds : HoldsArgument heap (argument_type kernel at) argument
  pub ends : Evaluates table.values kernel at argument.value steps value cost

-- ---- what `build` writes

-- the steps of `build` write the two files that it names for that, and those of other commands none
abbrev pub WritesItsOwn : Extern → Option Command → Type 0
WritesItsOwn table (Some (build file text certificate)) = (name : List ℕ) → Writes (script_of table (Some (build file text certificate))).steps name → (name ≡ text) ⊎ (name ≡ certificate)
WritesItsOwn table c = WritesNone (script_of table c).steps

-- a source was built: it is accepted, these are its instances, within the limits, and the files hold its C text and its certificate
pub record IsBuiltSource (held : Held) (file text certificate : List ℕ) (found : Found) (new : World) : Type 0 where
  pub accepted : IsAcceptedSource (bytes_at held file) (functions found)
  pub instances : HasInstances (functions found) found.copies
  pub brief : length (certified_text (functions found)) ≤ certificate_limit
  pub files : new.held ≡ Some (insert (insert held text (emitted found.copies)) certificate (certified_text (functions found)))

-- whatever counts rise, the steps of `build` go through only so
abbrev pub BuildWrites : Extern → Type 0
BuildWrites table =
    (held : Held) (file text certificate : List ℕ) (found : Found) (old new : World) → old.held ≡ Some held
    → Runs Judges (script_of table (Some (build file text certificate))).steps (script_of table (Some (build file text certificate))).start old (goes found) new
    → IsBuiltSource held file text certificate found new

-- What is printed of a source that the checker keeps is a certificate of it, where it is within the limit.
abbrev pub PrintedIsCertified : Type 0
PrintedIsCertified = (source : List ℕ) (program : List Entry) (checked : Checked) → length source ≤ source_limit → HasKernel source program
    → kernel_of (kernel_in checked) ≡ functions_of program → IsChecked (kernel_in checked) checked
    → length (certificate_text checked) ≤ certificate_limit → IsCertifiedSource source (certificate_text checked)
