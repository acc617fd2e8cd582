-- What is found of values in the cells of a heap file (docs/LANGUAGE.md, "Heap files").
use Rattle.std.specs.Prelude.{ℕ, cond, List, map, Option, Some, None, ⊤}
use Rattle.cg_base.specs.declared.ty.Part.{Part}
use Rattle.cg_base.specs.Types.{Parts, part_of, to_parts, type_of}
use Rattle.cg_heaptext_def.specs.Footprints.{amounts}
use Rattle.cg_heaptext_def.specs.Reading.{slot_values, value, value_all, value_within}
use Rattle.cg_heaptext_def.specs.Trees.{Cell, Heap, Written, address, amount, bare}
use Rattle.cg_heaptext_entries.specs.Index.{AreEntries, CellStands}
use Rattle.cg_heaptext_entries.specs.declared.entry.Index.{Index}
use Rattle.cg_heaptext_index.specs.Addresses.{IsMapOf}
use Rattle.cg_heaptext_index.specs.declared.map.Addresses.{Addresses}
use Rattle.cg_heaptext_lexer.specs.Next.{Cursor}
use Rattle.cg_value.specs.Values.{Val, gone, nothing, parts}

-- these are the entries of a heap file, and their positions by their addresses
pub record AreCells (index : Index) (addresses : Addresses) (h : Heap) : Type 0 where
  pub entries : AreEntries index.entries h.entries
  pub positions : IsMapOf addresses (amounts h)

-- a cell stands where it was found, or there is none
abbrev pub IsFound : Option Cursor → Option Cell → Type 0
IsFound (Some at) (Some c) = CellStands at c
IsFound None None = ⊤
IsFound _ _ = ⊥

-- the parts of a type
abbrev pub pieces : List Part → Parts
pieces ps = to_parts (map part_of ps)

module _ (cells : ℕ → Option Cell) where
  -- a value of an abstract type, and a boxed record of these fields: an address, and nothing where it is none
  abbrev pub abstract_in : Written → Val
  abstract_in (address p n) = value_within (cells (amount n))
  abstract_in _ = nothing

  abbrev pub boxed_in : Parts → Written → Val
  boxed_in ps (address p n) = parts (value_all cells ps (slot_values (cells (amount n))))
  boxed_in ps _ = nothing

  -- a field: where it is taken it is gone
  abbrev pub field_in : Part → Written → Val
  field_in p v = cond p.taken gone (value cells (type_of p.ty) (bare v))
