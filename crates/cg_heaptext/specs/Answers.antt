-- What reading a heap file answers (docs/LANGUAGE.md, "Heap files").
use Rattle.std.specs.Prelude.{ℕ, ◌≤◌, List, length, map, Result, Ok, Err, ⊤}
use Rattle.cg_base.specs.Types.{Tau}
use Rattle.cg_heap.specs.Reps.{HeapWorld, Represents}
use Rattle.cg_heaptext_contents.specs.Placings.{pair_of}
use Rattle.cg_heaptext_def.specs.Footprints.{held_in}
use Rattle.cg_heaptext_def.specs.Grammar.{HeapSpells}
use Rattle.cg_heaptext_def.specs.Placed.{CanBePlaced}
use Rattle.cg_heaptext_def.specs.HeapText.{HeapText, IsFaulty, IsNoHeap, Lacks, LacksBefore, absent, aliased, large, misfits, over, second}
use Rattle.cg_heaptext_def.specs.Trees.{Heap}
use Rattle.cg_heaptext.specs.declared.fault.HeapFault.{HeapFault}
use Rattle.cg_heaptext.specs.declared.fault.HeapFault.TheVariants.{H1, H2, H3, H4, H5, H6, H7, Memory}
use Rattle.cg_heaptext.specs.declared.start.Start.{Start}
use Rattle.cg_heap.specs.Steps.{count}
use Rattle.cg_typing.specs.Parts.{nodes, type_size}
use Rattle.cg_value.specs.Values.{value_of}

-- The bytes are a heap file that holds this, which represents the value over any table, where the argument may write and read just these cells.
pub record IsHeld (bytes : List ℕ) (t : Tau) (start : Start) : Type 0 where
  pub text : HeapText bytes t (map pair_of start.cells) start.arg (value_of start.value)
  pub represents : (world : HeapWorld) → Represents world (held_in (map pair_of start.cells)) t start.arg (value_of start.value) (λ q. count q start.writes) (λ q. count q start.reads)
  pub placeable : length bytes ≤ 16777216 → CanBePlaced (map pair_of start.cells)

-- The bytes are a heap file without a fault; and at a type that is no larger than types may be it holds this.
pub record IsStart (bytes : List ℕ) (t : Tau) (start : Start) : Type 0 where
  pub heap : Heap
  pub spells : HeapSpells bytes heap
  pub sound : LacksBefore large heap t × Lacks large heap t
  pub holds : nodes t ≤ type_size → IsHeld bytes t start

-- The bytes are no heap file for the type, for this reason: no heap file is spelled, or this is the first fault, on this line.
abbrev pub IsFault : List ℕ → Tau → HeapFault → Type 0
IsFault bytes t (H1 line) = IsNoHeap bytes line
IsFault bytes t (H2 line) = IsFaulty bytes t second line
IsFault bytes t (H3 line) = IsFaulty bytes t absent line
IsFault bytes t (H4 line) = IsFaulty bytes t misfits line
IsFault bytes t (H5 line) = IsFaulty bytes t over line
IsFault bytes t (H6 line) = IsFaulty bytes t aliased line
IsFault bytes t (H7 line) = IsFaulty bytes t large line
IsFault bytes t Memory = ⊥

-- The answer is right: this is what the bytes hold; or this is why they hold nothing; or memory is wanting.
abbrev pub Answers : List ℕ → Tau → Result Start HeapFault → Type 0
Answers bytes t (Ok start) = IsStart bytes t start
Answers bytes t (Err Memory) = ⊤
Answers bytes t (Err fault) = IsFault bytes t fault
