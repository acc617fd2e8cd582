-- The instances of a source, and what is written of it: its C text, and its certificate (docs/LANGUAGE.md, "Instances", "The C of instances"
-- and "Certificates").
use Rattle.std.specs.Prelude.{◌≡◌, ℕ, ◌<◌, Bool, true, List, Option, Some, None, map, slice_get}
use Rattle.cg_base.specs.declared.limit.Limit.TheVariants.{Core, Instances, Ty}
use Rattle.cg_cert.specs.Certificates.{certificate}
use Rattle.cg_cert.specs.declared.cert.Cert.{Cert}
use Rattle.cg_cert.specs.Texts.{CertText, text as text_of}
use Rattle.cg_certcheck_laws.specs.Laws.{SpellsDerivation}
use Rattle.cg_check_def.specs.Kept.{function_tree}
use Rattle.cg_lower.specs.Collected.{Copy}
use Rattle.cg_core.specs.Derivations.{Derivation}
use Rattle.cg_core.specs.Kernels.{Function}
use Rattle.cg_core.specs.Terms.{Note, Tree}
use Rattle.cg_ctext.specs.Printed.{printed}
use Rattle.cg_ctree.specs.Spells.{CSpells}
use Rattle.cg_ctree.specs.Trees.{Program}
use Rattle.cg_inst.specs.Judged.{AreTooMany, HaveLargeTypes, HaveTooManyNodes, IsWithin}
use Rattle.cg_heap.specs.Calls.{heap_of}
use Rattle.cg_heap.specs.declared.cell.Scalar.{Scalar}
use Rattle.cg_heap.specs.declared.foreign.Link.{Link}
use Rattle.cg_heap.specs.ForeignHeaps.{ForeignHeap, IsLawfulOnHeaps}
use Rattle.cg_heap.specs.NoForeignHeap.{no_foreign_heap}
use Rattle.cg_heap.specs.Reps.{Represents}
use Rattle.cg_heap.specs.Stored.{Stored}
use Rattle.cg_inst.specs.Lists.{Cores, IsList}
use Rattle.cg_inst_laws.specs.Laws.{entry_of}
use Rattle.cg_eval_def.specs.Evaluation.{evaluation}
use Rattle.cg_eval_def.specs.Foreigns.{table_over}
use Rattle.cg_cgen_def.specs.Names.{function_name}
use Rattle.cg_lower.specs.Programs.{lowered}
use Rattle.cg_lower.specs.Promises.{IsSimulated}
use Rattle.cg_driver_laws.specs.Laws.{AreLinked, GivesRefined, ReachKnown, copies_over, linked_over, program_over}
use Rattle.cg_typing.specs.Holds.{kept_at}
use Rattle.cg_typing.specs.Instances.{Instance}
use Rattle.cg_typing.specs.Kept.{AreKept}
use Rattle.cg_typing.specs.Parts.{given_by, taken_by}
use Rattle.cg_update_laws.specs.Laws.{world_among}
use Rattle.cg_value.specs.Foreign.{Foreign, IsLawful}
use Rattle.cg_value.specs.NoForeign.{no_foreign}
use Rattle.cg_value.specs.Values.{Val, function}
use Rattle.cg_driver_lines.specs.Lines.{limit_line, limit_name}

-- The cores of an accepted kernel, one for each function with a body: each erases to its body, and the typing rules derive it.
-- There are no others (the law `one_core` of the checker).
abbrev pub AreCores : List Function → List (Option (Tree Note)) → Type 0
AreCores functions cores = (trees : List (Option Derivation)) × AreKept functions functions cores trees

-- the core at a position
abbrev pub bodies_in : List (Option (Tree Note)) → Cores
bodies_in cores i = kept_at cores i

-- ---- instances

-- the instances of an accepted kernel, with their types and bodies, are these, and within all limits
pub record HasInstances (functions : List Function) (copies : List Copy) : Type 0 where
  pub cores : List (Option (Tree Note))
  pub derived : AreCores functions cores
  pub list : List Instance
  pub within : IsWithin functions (bodies_in cores) list
  pub are : copies ≡ copies_over functions (bodies_in cores) list

-- they pass a limit, and this is the line of the first that they pass
pub data PassesInstances (functions : List Function) (text : List ℕ) : Type 0 where
  too_many : (cores : List (Option (Tree Note))) → AreCores functions cores → AreTooMany functions (bodies_in cores) → text ≡ limit_line (limit_name Instances)
      → PassesInstances functions text
  too_large : (cores : List (Option (Tree Note))) → AreCores functions cores → HaveTooManyNodes functions (bodies_in cores) → text ≡ limit_line (limit_name Core)
      → PassesInstances functions text
  too_wide : (cores : List (Option (Tree Note))) → AreCores functions cores → HaveLargeTypes functions (bodies_in cores) → text ≡ limit_line (limit_name Ty)
      → PassesInstances functions text

-- ---- what is written

-- the C text of a list of instances: the print of the one program that it is lowered to
abbrev pub emitted : List Copy → List ℕ
emitted copies = printed (lowered copies)

-- The text means what the instances do: it spells a program that simulates the update semantics, which gives the same scalars, heap and
-- addresses at cost k within 32k + 32 steps, on every heap and over any table.
pub record IsMeant (copies : List Copy) : Type 0 where
  pub program : Program
  pub spelled : CSpells (emitted copies) program
  pub simulates : IsSimulated copies program

-- Over a table of abstract functions whose C names are linked: from any heap that represents the argument of an instance that reaches only
-- abstract functions that the table knows, in which all functions do so, and that has no cell above its highest address, the C of this instance
-- ends within 32k + 32 steps with what represents the value that evaluation of the function gives at cost k: each cell that could be written is
-- written by the result or freed, once, what was made too, and all others are as they were. The list is any of the source's instances.
abbrev pub RefinesOver : Foreign → ForeignHeap → List Function → Cores → List Copy → Program → Type 0
RefinesOver x y functions cores copies program =
    (list : List Instance) → IsList functions cores list → copies ≡ copies_over functions cores list → (links : List Link) → AreLinked x functions list links
    → (among : ℕ → Bool) → ReachKnown (program_over x y functions cores list) among
    → (at n k : ℕ) (z : Instance) (core : Tree Note) (us : List Scalar) (m : Stored) (v w : Val) (writes reads : ℕ → ℕ) → slice_get list at ≡ Some z → among at ≡ true
    → (entry_of functions cores z).body ≡ Some core
    → Represents (world_among (program_over x y functions cores list) among) (heap_of m) (taken_by (entry_of functions cores z).ty) us v writes reads
    → ((q : ℕ) → m.top < q → heap_of m q ≡ None)
    → evaluation (table_over x functions cores) n (function z.fun z.types) v ≡ Some (w, k)
    → GivesRefined (world_among (program_over x y functions cores list) among) (linked_over program links y) (function_name at) us m writes reads (given_by (entry_of functions cores z).ty) w k

-- so it is whichever cores are derived of the source
abbrev pub RefinesWith : Foreign → ForeignHeap → List Function → List Copy → Program → Type 0
RefinesWith x y functions copies program = (cores : List (Option (Tree Note))) → AreCores functions cores → RefinesOver x y functions (bodies_in cores) copies program

-- and over no table, for what reaches no abstract function
abbrev pub Refines : List Function → List Copy → Program → Type 0
Refines = RefinesWith no_foreign no_foreign_heap

-- the certificate of an accepted kernel: that of the derivations with the occurrence marks; and its text
abbrev pub certificate_of : List Function → Cert
certificate_of functions = certificate functions (map (function_tree functions) functions)

abbrev pub certified_text : List Function → List ℕ
certified_text functions = text_of (certificate_of functions)

-- the text is that of the certificate, which spells a derivation of the kernel
pub record IsProved (functions : List Function) : Type 0 where
  pub written : CertText (certified_text functions) (certificate_of functions)
  pub spells : SpellsDerivation functions (certificate_of functions)

-- What `build` writes means what it should: the C text means what the instances do; it refines the source, on any heap, and does so over any
-- lawful table of abstract functions too; and the certificate is one of the source.
pub record IsCompiled (functions : List Function) (copies : List Copy) : Type 0 where
  pub meant : IsMeant copies
  pub refines : Refines functions copies meant.program
  pub refines_with : (x : Foreign) (y : ForeignHeap) → IsLawful x → IsLawfulOnHeaps x y → RefinesWith x y functions copies meant.program
  pub proved : IsProved functions
