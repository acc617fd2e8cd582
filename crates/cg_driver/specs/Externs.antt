-- The table of abstract functions that the commands go over (docs/LANGUAGE.md, "Abstract functions").
use Rattle.std.specs.Prelude.{◌≤◌, ◌^◌, List, [], length}
use Rattle.cg_core.specs.Kernels.{Function}
use Rattle.cg_cmachine_def.specs.Runs.{Linked}
use Rattle.cg_ctree.specs.Trees.{Program}
use Rattle.cg_driver_laws.specs.Laws.{AreLinked, NoneAreLinked, copies_over, linked_over}
use Rattle.cg_heap.specs.declared.foreign.Link.{Link}
use Rattle.cg_heap.specs.ForeignHeaps.{ForeignHeap, IsLawfulOnHeaps}
use Rattle.cg_heap.specs.NoForeignHeap.{no_foreign_heap, none_is_lawful_on_heaps}
use Rattle.cg_inst.specs.Lists.{Cores}
use Rattle.cg_lower.specs.Collected.{Copy}
use Rattle.cg_typing.specs.Instances.{Instance}
use Rattle.cg_value.specs.Foreign.{Foreign, IsLawful}
use Rattle.cg_value.specs.NoForeign.{no_foreign, none_is_lawful}

-- what a table gives as values, and on heaps, and the links of the C names of a source's instances to its functions
pub record Extern : Type 0 where
  pub values : Foreign
  pub heap : ForeignHeap
  pub links : List Function → List Copy → List Link

-- The C program of a source's instances, with the functions that the table knows linked to it.
abbrev pub linked_in : Extern → List Function → List Copy → Program → Linked
linked_in table functions copies program = linked_over program (table.links functions copies) table.heap

-- It keeps the laws of tables, and each abstract function that it knows is linked.
pub record IsLawfulExtern (table : Extern) : Type 0 where
  pub values : IsLawful table.values
  pub heap : IsLawfulOnHeaps table.values table.heap
  pub links : (functions : List Function) (cores : Cores) (list : List Instance) → length list ≤ 2 ^ 64
      → AreLinked table.values functions list (table.links functions (copies_over functions cores list))

-- the table that gives no type and knows no function
abbrev pub no_extern : Extern
no_extern = record { values = no_foreign; heap = no_foreign_heap; links = λ functions copies. [] }

-- it is lawful
pub none_is_lawful_extern : NoneAreLinked → IsLawfulExtern no_extern
none_is_lawful_extern unlinked = record { values = none_is_lawful; heap = none_is_lawful_on_heaps; links = λ functions cores list small. unlinked functions list }
