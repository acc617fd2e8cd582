-- What the checker's answer and the parts of a run say, as the code has them.
use Rattle.std.specs.Prelude.{◌≡◌, ℕ, ◌≤◌, true, List, [], ◌∷◌, length, map, slice_get, Some}
use Rattle.cg_cert.specs.declared.cert.Cert.{Cert}
use Rattle.cg_cert.specs.Laws.{AreNamed}
use Rattle.cg_cert.specs.Texts.{CertText}
use Rattle.cg_check_def.specs.Kept.{function_tree}
use Rattle.cg_faults.specs.Fails.{AreTypesWithin}
use Rattle.cg_core.specs.declared.kernel.Kernel.{Kernel}
use Rattle.cg_core.specs.Kernels.{Function, kernel_of}
use Rattle.cg_resolve_def.specs.Desugar.{deepest_body, functions_of, functions_limit, term_limit, NamesStand, WithinLimits}
use Rattle.cg_resolve_def.specs.Faults.{program_faults}
use Rattle.cg_resolve_def.specs.Order.{AreOrdered, AreGrowing}
use Rattle.cg_resolve_def.specs.Takes.{missing_fields}
use Rattle.cg_driver_entry.specs.Entries.{ReachesAbstract}
use Rattle.cg_base.specs.Types.{Tau}
use Rattle.cg_core_def.specs.Lawful.{IsLawfulKernel}
use Rattle.cg_driver_entry.specs.Typed.{HasEntryType}
use Rattle.cg_heaptext.specs.Answers.{IsHeld}
use Rattle.cg_heaptext.specs.declared.start.Start.{Start}
use Rattle.cg_heaptext_contents.specs.Placings.{pair_of}
use Rattle.cg_value.specs.Values.{value_of}
use Rattle.cg_driver_steps.specs.declared.status.Status.{Status}
use Rattle.cg_driver_steps.specs.Steps.{refuses, Settles}
use Rattle.cg_surface.specs.Programs.{Entry}
use Rattle.cg_typing.specs.Accepted.{IsAcceptedKernel}
use Rattle.cg_typing.specs.declared.checked.Checked.{Checked}
use Rattle.cg_typing.specs.Holds.{kernel_in, cores_in, trees_in}
use Rattle.cg_typing.specs.Kept.{AreKept, maybe_core, maybe_tree}
use Rattle.cg_driver.specs.Accepted.{HasKernel, IsAcceptedSource}
use Rattle.cg_driver.specs.Commands.{Judges, certified, kernel_rules, resolving_rules, reading_rules, source_rules, text_rules, type_rules, entry_rules, heap_rules, entry_at}
use Rattle.cg_driver.specs.Entered.{argument_type, is_entry, result_type}
use Rattle.cg_driver.specs.Found.{Argument, Found, functions, source_limit, certificate_limit, heap_limit}
use Rattle.cg_driver.specs.Instanced.{AreCores}

-- the functions of a checked source
abbrev pub functions_in : Checked → List Function
functions_in checked = kernel_of (kernel_in checked)

-- its cores are those that the rules derive
abbrev pub HoldsCores : Checked → Type 0
HoldsCores checked = AreCores (functions_in checked) (map maybe_core (cores_in checked))

-- its derivations are those with the occurrence marks
pub record HoldsMarks (checked : Checked) : Type 0 where
  pub are : map maybe_tree (trees_in checked) ≡ map (function_tree (functions_in checked)) (functions_in checked)
  pub kept : AreKept (functions_in checked) (functions_in checked) (map maybe_core (cores_in checked)) (map (function_tree (functions_in checked)) (functions_in checked))

-- so they make a certificate, the names of functions can be written in it, and no body is deep
pub record CanBeBuilt (checked : Checked) : Type 0 where
  pub marks : HoldsMarks checked
  pub named : AreNamed (functions_in checked)
  pub shallow : deepest_body (functions_in checked) ≤ term_limit

-- a kernel is accepted within the limits, and kept so
pub record IsCheckedKernel (functions : List Function) (checked : Checked) : Type 0 where
  pub accepted : IsAcceptedKernel functions
  pub within : AreTypesWithin functions
  pub same : functions_in checked ≡ functions
  pub cores : HoldsCores checked
  pub marks : HoldsMarks checked

-- a program has its names in order and is within the limits, and this is its kernel
pub record IsKernelOf (p : List Entry) (kernel : Kernel) : Type 0 where
  pub names : NamesStand p
  pub limits : WithinLimits p
  pub same : kernel_of kernel ≡ functions_of p
  pub lawful : IsLawfulKernel (kernel_of kernel)

-- a source within the limits has this kernel
pub record IsReadSource (source : List ℕ) (kernel : Kernel) : Type 0 where
  pub program : List Entry
  pub short : length source ≤ source_limit
  pub resolved : HasKernel source program
  pub same : kernel_of kernel ≡ functions_of program
  pub lawful : IsLawfulKernel (kernel_of kernel)

-- a source is accepted, and its kernel is kept so, which has few functions and can be built
pub record IsCheckedSource (source : List ℕ) (checked : Checked) : Type 0 where
  pub accepted : IsAcceptedSource source (functions_in checked)
  pub cores : HoldsCores checked
  pub ready : CanBeBuilt checked
  pub few : length (functions_in checked) ≤ functions_limit

-- a state's functions are those of a checked source
pub record Keeps (checked : Checked) (found : Found) : Type 0 where
  pub same : functions found ≡ functions_in checked
  pub cores : HoldsCores checked
  pub few : length (functions_in checked) ≤ functions_limit

-- a state's functions are those of this kernel
pub record KeepsKernel (kernel : Kernel) (found : Found) : Type 0 where
  pub same : functions found ≡ kernel_of kernel
  pub lawful : IsLawfulKernel (kernel_of kernel)

-- what the rules say of a kernel, a program, a source, the bytes of a certificate file, a certificate, an entry, the function that it is and
-- the bytes of a heap file that they refuse
abbrev pub RefusesKernel : List ℕ → List Function → Status → List ℕ → Type 0
RefusesKernel file fs status text = (found : Found) → functions found ≡ fs → Settles Judges (kernel_rules file) found (refuses status text)

abbrev pub RefusesProgram : List ℕ → List Entry → Status → List ℕ → Type 0
RefusesProgram file p status text =
    AreOrdered (program_faults p) → AreGrowing (missing_fields p) → (found : Found) → found.program ≡ p → Settles Judges (resolving_rules file) found (refuses status text)

abbrev pub RefusesReading : List ℕ → List ℕ → Status → List ℕ → Type 0
RefusesReading file source status text = (found : Found) → found.source ≡ source → Settles Judges (reading_rules file) found (refuses status text)

abbrev pub RefusesSource : List ℕ → List ℕ → Status → List ℕ → Type 0
RefusesSource file source status text = (found : Found) → found.source ≡ source → Settles Judges (source_rules file) found (refuses status text)

abbrev pub RefusesText : List ℕ → List ℕ → Status → List ℕ → Type 0
RefusesText certificate bytes status text = (found : Found) → found.certificate ≡ bytes → Settles Judges (text_rules certificate) found (refuses status text)

abbrev pub RefusesCert : List ℕ → List Function → Cert → Status → List ℕ → Type 0
RefusesCert certificate fs cert status text =
    (found : Found) → functions found ≡ fs → found.cert ≡ cert → Settles Judges (certified certificate ∷ []) found (refuses status text)

abbrev pub RefusesEntry : List ℕ → List ℕ → List Function → Status → List ℕ → Type 0
RefusesEntry file entry fs status text = (found : Found) → functions found ≡ fs → Settles Judges (entry_rules file entry) found (refuses status text)

abbrev pub RefusesFunction : List ℕ → List Function → ℕ → Status → List ℕ → Type 0
RefusesFunction file fs at status text = (found : Found) → functions found ≡ fs → found.at ≡ at → Settles Judges (type_rules file) found (refuses status text)

abbrev pub RefusesBytes : List ℕ → List ℕ → Tau → Status → List ℕ → Type 0
RefusesBytes heap bytes t status text =
    (found : Found) → found.heap ≡ bytes → argument_type (functions found) found.at ≡ t → Settles Judges (heap_rules heap) found (refuses status text)

-- a certificate file within its limit holds the text of this certificate
pub record IsCertificate (bytes : List ℕ) (cert : Cert) : Type 0 where
  pub brief : length bytes ≤ certificate_limit
  pub written : CertText bytes cert

-- a function is allowed as an entry: its type is, and it reaches no abstract function
pub record IsAllowed (functions : List Function) (at : ℕ) : Type 0 where
  pub typed : is_entry (slice_get functions at) ≡ true
  pub concrete : ReachesAbstract functions at → ⊥

abbrev pub IsAllowedAt : List Function → ℕ → ℕ → Type 0
IsAllowedAt functions at next = (next ≡ at) × IsAllowed functions at

-- the entry of a source
pub record IsEntry (entry : List ℕ) (functions : List Function) (at : ℕ) : Type 0 where
  pub named : entry_at entry functions ≡ Some at
  pub allowed : IsAllowed functions at

-- what the function at a position takes and gives, as an entry
pub record IsEntryOf (functions : List Function) (at : ℕ) (argument result : Tau) : Type 0 where
  pub function : Function
  pub there : slice_get functions at ≡ Some function
  pub vars : function.vars ≡ []
  pub typed : HasEntryType function argument result

-- so it is of all functions whose types are allowed
abbrev pub HaveEntryTypes : List Function → Type 0
HaveEntryTypes functions = (at : ℕ) → is_entry (slice_get functions at) ≡ true → IsEntryOf functions at (argument_type functions at) (result_type functions at)

-- a heap file within its limit holds this at a type
pub record IsStartOf (bytes : List ℕ) (t : Tau) (start : Start) : Type 0 where
  pub short : length bytes ≤ heap_limit
  pub held : IsHeld bytes t start

-- what a heap file holds, of the answer of the reader
abbrev pub argument_of : Start → Argument
argument_of start = record { cells = map pair_of start.cells; scalars = start.arg; value = value_of start.value }
