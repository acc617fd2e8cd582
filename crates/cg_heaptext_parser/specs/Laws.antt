-- What holds of all heap files.
use Rattle.std.specs.Prelude.{◌≡◌, ℕ, List}
use Rattle.cg_heaptext_def.specs.Grammar.{HeapSpells}
use Rattle.cg_heaptext_def.specs.Trees.{Heap}

-- bytes spell one heap file at most (docs/LANGUAGE.md, "Heap files")
abbrev pub OneHeap : Type 0
OneHeap = (bytes : List ℕ) (g h : Heap) → HeapSpells bytes g → HeapSpells bytes h → g ≡ h
