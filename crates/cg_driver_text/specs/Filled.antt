-- The store that cells make, and a C program without abstract functions.
use Rattle.std.specs.FinMap.{empty}
use Rattle.std.specs.Prelude.{ℕ, List, [], ◌∷◌}
use Rattle.cg_cmachine_def.specs.Runs.{Linked}
use Rattle.cg_ctree.specs.Trees.{Program}
use Rattle.cg_heap.specs.declared.cell.Cell.{Cell}
use Rattle.cg_heap.specs.NoForeignHeap.{no_foreign_heap}
use Rattle.cg_heap.specs.Stored.{Stored, with_cell}

-- a store that has never had a cell
abbrev pub no_cells : Stored
no_cells = record { cells = empty; top = 0 }

-- cells in a store, each at its address: the first of an address counts
abbrev pub filled : List (ℕ × Cell) → Stored → Stored
filled [] s = s
filled (c ∷ cs) s = with_cell c.0 c.1 (filled cs s)

-- a C program of which no function is another's
abbrev pub unlinked : Program → Linked
unlinked program = record { program = program; links = []; asked = no_foreign_heap.asked }
