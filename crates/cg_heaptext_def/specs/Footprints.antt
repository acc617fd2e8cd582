-- Which cells a heap file holds, by their addresses, and how often its argument reaches each (docs/LANGUAGE.md, "Heap files").
use Rattle.std.specs.Prelude.{ℕ, ◌+◌, nat_eq, List, [], ◌∷◌, map, Option, Some, None, if◌then◌else◌}
use Rattle.cg_base.specs.declared.kind.Sigil.{Sigil}
use Rattle.cg_base.specs.declared.kind.Sigil.TheVariants.{U}
use Rattle.cg_base.specs.Types.{Tau, abs, fields}
use Rattle.cg_heap.specs.declared.cell.Cell.{Cell as Held}
use Rattle.cg_heap.specs.Reps.{counted}
use Rattle.cg_heaptext_def.specs.Reading as reading
use Rattle.cg_heaptext_def.specs.Reading.{Event, mention}
use Rattle.cg_heaptext_def.specs.Trees.{Heap, amount}

-- the cell at an address, among cells with their addresses
abbrev pub held_in : List (ℕ × Held) → ℕ → Option Held
held_in [] q = None
held_in (c ∷ cs) q = if nat_eq c.0 q then Some c.1 else held_in cs q

-- the numbers that entries have as addresses, in order
abbrev pub amounts : Heap → List ℕ
amounts h = map (λ e. amount e.address) h.entries

-- the first place at which a number stands, counted from this one on
abbrev pub position_from : ℕ → List ℕ → ℕ → Option ℕ
position_from i [] n = None
position_from i (m ∷ ms) n = if nat_eq m n then Some i else position_from (i + 1) ms n

abbrev pub sigil_of : Tau → Sigil
sigil_of (abs name ts s) = s
sigil_of (fields ps s) = s
sigil_of _ = U

-- how often an address is mentioned at types of a sigil
abbrev pub reached : Sigil → List Event → ℕ → ℕ
reached m [] q = 0
reached m (mention p r t ∷ es) q = counted m (sigil_of t) r q + reached m es q
reached m (reading.misfit p ∷ es) q = reached m es q
reached m (reading.counted n bound ∷ es) q = reached m es q
