-- What holds of all heap files without faults.
use Rattle.std.specs.Prelude.{◌≡◌, ℕ, ◌≤◌, true, slice_get, Some}
use Rattle.cg_base.specs.declared.kind.Sigil.TheVariants.{R, W}
use Rattle.cg_base.specs.Types.{Tau}
use Rattle.cg_heap.specs.Reps.{HeapWorld, Represents}
use Rattle.cg_typing.specs.Parts.{nodes}
use Rattle.cg_heaptext_def.specs.Footprints.{held_in, reached}
use Rattle.cg_heaptext_def.specs.HeapText.{Lacks, LacksBefore, cells_of, large, placed, read_at, read_events}
use Rattle.cg_heaptext_def.specs.Reading.{held_at, scalars, value}
use Rattle.cg_heaptext_def.specs.Small.{are_small, is_small_cell}
use Rattle.cg_heaptext_def.specs.Trees.{Entry, Heap, amount, bare}

-- What a heap file without faults holds represents the argument's value, over any table (docs/LANGUAGE.md, "Heap files").
abbrev pub TextsRepresent : Type 0
TextsRepresent = (world : HeapWorld) (h : Heap) (t : Tau) → LacksBefore large h t → Lacks large h t
    → Represents world (held_in (placed h t)) t (scalars t (bare h.argument)) (value (cells_of h) t (bare h.argument)) (reached W (read_events h t)) (reached R (read_events h t))

-- Every scalar that a heap file without faults holds fits a machine word: those of the argument, and those of every cell. The
-- argument's type has no more nodes than a type may have, since the number of an alternative is below it.
abbrev pub TextsAreSmall : Type 0
TextsAreSmall = (h : Heap) (t : Tau) → nodes t ≤ 1024 → LacksBefore large h t
    → (are_small (scalars t (bare h.argument)) ≡ true)
    × ((i : ℕ) (e : Entry) → slice_get h.entries i ≡ Some e → is_small_cell (held_at (read_at h t (amount e.address)) e.cell) ≡ true)
