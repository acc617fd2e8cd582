-- The cells of a heap file without faults can be put into a store.
use Rattle.std.specs.Prelude.{ℕ, ◌≤◌, List, length}
use Rattle.cg_base.specs.Types.{Tau}
use Rattle.cg_typing.specs.Parts.{nodes}
use Rattle.cg_heaptext_def.specs.Grammar.{HeapSpells}
use Rattle.cg_heaptext_def.specs.HeapText.{Lacks, LacksBefore, large, placed}
use Rattle.cg_heaptext_def.specs.Placed.{CanBePlaced}
use Rattle.cg_heaptext_def.specs.Trees.{Heap}

-- The cells of a heap file without faults, of at most 16 MiB, can be put into a store one by one, at a type that is no larger than types may
-- be: the fields of a larger one could have more slots than a cell may have, since a taken field is written `_` whatever its type is.
abbrev pub TextsCanBePlaced : Type 0
TextsCanBePlaced = (bytes : List ℕ) (h : Heap) (t : Tau) → length bytes ≤ 16777216 → nodes t ≤ 1024 → HeapSpells bytes h → LacksBefore large h t → Lacks large h t
    → CanBePlaced (placed h t)
