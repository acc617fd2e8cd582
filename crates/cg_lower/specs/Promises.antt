-- What the C program of a list of instances promises (docs/LANGUAGE.md, "The C of instances").
use Rattle.std.specs.Prelude.{◌≡◌, ℕ, ◌^◌, ◌<◌, ◌≤◌, true, List, length, slice_get, Option, Some, None}
use Rattle.std.specs.List.{AllByRecursion, flat_map}
use Rattle.cg_base.specs.declared.fun.Fun.TheVariants.{User}
use Rattle.cg_base.specs.Types.{Tau, fields, end}
use Rattle.cg_lower.specs.Collected.{Copy, arrows_in, entries_of, list_of, table_in, types_of, whole_of}
use Rattle.cg_core.specs.Kernels.{Function}
use Rattle.cg_cmachine_def.specs.Runs.{linked_to}
use Rattle.cg_ctree.specs.Spells.{IsPrintable}
use Rattle.cg_ctree.specs.Trees.{Program as CText}
use Rattle.cg_heap.specs.declared.foreign.Link.{Link}
use Rattle.cg_lower_def.specs.Functions.{low_instance}
use Rattle.cg_cgen_def.specs.Bodies.{Low}
use Rattle.cg_cgen_def.specs.Names.{function_name}
use Rattle.cg_lower_def.specs.Lowered.{Whole}
use Rattle.cg_lower_def.specs.Printables.{AreShallow}
use Rattle.cg_lower_def.specs.Simulated.{Simulates}
use Rattle.cg_lower_def.specs.Structs.{IsCovered, IsTable}
use Rattle.cg_eval_def.specs.Foreigns.{is_known}
use Rattle.cg_typing.specs.Instances.{AreInstances, Entry, Instance, IsGood}
use Rattle.cg_update.specs.Calls.{Program}

-- ---- what the code knows: that there are few of everything that C has numbers for

-- the C of an instance has fewer than 2^64 locals
abbrev pub IsFewIn : Whole → Copy → Type 0
IsFewIn whole c = (a : Low) → low_instance whole c.0 c.1.body ≡ Some a → length a.locals < 2 ^ 64

abbrev pub IsFewMaybe : Whole → Option Copy → Type 0
IsFewMaybe whole None = Unit {0}
IsFewMaybe whole (Some c) = IsFewIn whole c

pub record AreFew (copies : List Copy) : Type 0 where
  pub table : IsTable (table_in copies)
  pub covered : AllByRecursion (IsCovered (table_in copies)) (flat_map types_of copies)
  pub list : length copies ≤ 2 ^ 32
  pub arrows : length (arrows_in copies) ≤ 2 ^ 32
  pub locals : (k : ℕ) → k < length copies → IsFewMaybe (whole_of copies) (slice_get copies k)

-- ---- what is asked of a list of instances

-- a program of the update semantics is that of the copies: each is an instance of its function, and abstract functions that the table knows
-- are linked by the names of their places
pub record IsProgramOf (p : Program) (links : List Link) (copies : List Copy) : Type 0 where
  pub list : p.list ≡ list_of copies
  pub entries : p.entries ≡ entries_of copies
  pub instances : AreInstances p.functions p.list p.entries
  pub good : (k : ℕ) (x : Instance) → slice_get p.list k ≡ Some x → IsGood p.functions x
  pub linked : (k i : ℕ) (x : Instance) (e : Entry) (f : Function)
      → slice_get p.list k ≡ Some x → slice_get p.entries k ≡ Some e → x.fun ≡ User i → e.body ≡ None → slice_get p.functions i ≡ Some f → is_known p.foreign f ≡ true
      → linked_to (function_name k) links ≡ Some f.at.name

-- the C program simulates the update semantics: an instance's result at cost k comes within 32k + 32 steps, with the same scalars, heap and
-- addresses of the cells that were made and freed
abbrev pub IsSimulated : List Copy → CText → Type 0
IsSimulated copies text =
    (p : Program) (links : List Link) → IsProgramOf p links copies → Simulates p (record { program = text; links = links; asked = p.on_heaps.asked })

-- a type is no record without fields
abbrev pub HasFields : Tau → Type 0
HasFields (fields end sigil) = ⊥
HasFields t = Unit {0}

-- it can be printed, where no body is deeper than 2,048 and no record is without fields
abbrev pub CanBePrinted : List Copy → CText → Type 0
CanBePrinted copies text =
    (p : Program) (links : List Link) → IsProgramOf p links copies → AllByRecursion HasFields (table_in copies) → AreShallow p.entries → IsPrintable text
