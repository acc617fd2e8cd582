-- What is known of a heap file as it is read at a type, and what reading it answers (docs/LANGUAGE.md, "Heap files").
use Rattle.std.specs.Prelude.{◌≡◌, ℕ, ◌≤◌, List, map, Result, Ok, Err, ⊤}
use Rattle.cg_base.specs.declared.place.Place.{Place}
use Rattle.cg_base.specs.declared.kind.Sigil.TheVariants.{R, W}
use Rattle.cg_base.specs.Types.{Tau}
use Rattle.cg_heaptext_contents.specs.Placings.{pair_of}
use Rattle.cg_heaptext_def.specs.Footprints.{amounts, reached}
use Rattle.cg_heaptext_def.specs.Grammar.{HeapSpells}
use Rattle.cg_heaptext_def.specs.HeapText.{At, Fault, Lacks, LacksBefore, absent, aliased, cells_of, large, misfits, over, placed, read_events, second}
use Rattle.cg_heaptext_def.specs.Reading.{scalars, value}
use Rattle.cg_heaptext_def.specs.Trees.{Heap, bare}
use Rattle.cg_heaptext_entries.specs.Index.{IsIndex}
use Rattle.cg_heaptext_entries.specs.declared.entry.Index.{Index}
use Rattle.cg_heaptext_index.specs.Addresses.{IsMapOf}
use Rattle.cg_heaptext_index.specs.declared.map.Addresses.{Addresses}
use Rattle.cg_heaptext.specs.declared.fault.HeapFault.{HeapFault}
use Rattle.cg_heaptext.specs.declared.fault.HeapFault.TheVariants.{H1, H2, H3, H4, H5, H6, H7, Memory}
use Rattle.cg_heaptext.specs.declared.start.Start.{Start}
use Rattle.cg_heap.specs.Steps.{count}
use Rattle.cg_typing.specs.Parts.{nodes, type_size}
use Rattle.cg_value.specs.Values.{value_of}

-- the bytes are this heap file, and these are its entries
pub record IsFile (index : Index) (h : Heap) : Type 0 where
  pub bytes : List ℕ
  pub spells : HeapSpells bytes h
  pub entries : IsIndex index h

-- and their addresses, of which each is mentioned once, and each that is mentioned has an entry
pub record IsSound (index : Index) (addresses : Addresses) (h : Heap) : Type 0 where
  pub file : IsFile index h
  pub map : IsMapOf addresses (amounts h)
  pub apart : (t : Tau) → Lacks second h t
  pub known : (t : Tau) → Lacks absent h t

-- what a heap file without faults holds
pub record Holds (h : Heap) (t : Tau) (start : Start) : Type 0 where
  pub cells : map pair_of start.cells ≡ placed h t
  pub arg : start.arg ≡ scalars t (bare h.argument)
  pub value : value_of start.value ≡ value (cells_of h) t (bare h.argument)
  pub writes : (q : ℕ) → count q start.writes ≡ reached W (read_events h t) q
  pub reads : (q : ℕ) → count q start.reads ≡ reached R (read_events h t) q

abbrev pub Faultless : Heap → Tau → Type 0
Faultless h t = LacksBefore large h t × Lacks large h t

-- a fault is the first, on this line
abbrev pub IsFirst : Fault → Heap → Tau → ℕ → Type 0
IsFirst fault h t line = LacksBefore fault h t × ((place : Place) × At fault h t place × (line ≡ place.line))

-- this is what a heap file holds, or its first fault
abbrev pub Gives : Heap → Tau → Result Start HeapFault → Type 0
Gives h t (Ok start) = Faultless h t × (nodes t ≤ type_size → Holds h t start)
Gives h t (Err (H1 line)) = ⊥
Gives h t (Err (H2 line)) = IsFirst second h t line
Gives h t (Err (H3 line)) = IsFirst absent h t line
Gives h t (Err (H4 line)) = IsFirst misfits h t line
Gives h t (Err (H5 line)) = IsFirst over h t line
Gives h t (Err (H6 line)) = IsFirst aliased h t line
Gives h t (Err (H7 line)) = IsFirst large h t line
Gives h t (Err Memory) = ⊤

-- where no value misfits: the first of the other faults, or none
abbrev pub Passes : Heap → Tau → Result ⊤ HeapFault → Type 0
Passes h t (Ok u) = Faultless h t
Passes h t (Err (H5 line)) = IsFirst over h t line
Passes h t (Err (H6 line)) = IsFirst aliased h t line
Passes h t (Err (H7 line)) = IsFirst large h t line
Passes h t (Err fault) = ⊥
