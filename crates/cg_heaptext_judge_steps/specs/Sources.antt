-- Heap files whose cells are read where a value mentions them (docs/LANGUAGE.md, "Heap files").
use Rattle.std.specs.Prelude.{◌≡◌, ℕ, List, [], ◌∷◌, Some, Result, Ok, Err, ⊤}
use Rattle.cg_base.specs.declared.place.Place.{Place}
use Rattle.cg_base.specs.Types.{Tau}
use Rattle.cg_heaptext_def.specs.Footprints.{amounts}
use Rattle.cg_heaptext_def.specs.HeapText.{IsAbsent, Mention, Never, cells_of}
use Rattle.cg_heaptext_def.specs.Reading.{mention}
use Rattle.cg_heaptext_def.specs.Trees.{Cell, Heap, Written, address, amount}
use Rattle.cg_heaptext_entries.specs.Index.{CellStands, IsIndex}
use Rattle.cg_heaptext_index.specs.Addresses.{IsMapOf}
use Rattle.cg_heaptext_judge_notes.specs.declared.fault.JudgeFault.{JudgeFault}
use Rattle.cg_heaptext_judge_notes.specs.declared.fault.JudgeFault.TheVariants.{Misfit}
use Rattle.cg_heaptext_judge_notes.specs.declared.notes.Judged.{Judged}
use Rattle.cg_heaptext_judge_notes.specs.Notes.{Notes}
use Rattle.cg_heaptext_judge_steps.specs.declared.source.Source.{Source}
use Rattle.cg_heaptext_lexer.specs.Next.{Cursor}
use denote.Ref.{Bor}

-- a heap file, of which each address that is mentioned has an entry
pub record IsRead (source : Source) (h : Heap) : Type 0 where
  pub index : IsIndex source.index.now h
  pub addresses : IsMapOf source.addresses.now (amounts h)
  pub no_absent : Never (IsAbsent h)

-- addresses that are mentioned have cells
abbrev pub AreThere : Heap → List Mention → Type 0
AreThere h [] = ⊤
AreThere h (m ∷ ms) = ((c : Cell) × (cells_of h (amount m.address) ≡ Some c)) × AreThere h ms

-- The cell at an address was noted at a type, with the place of the mention, and the cell stands there.
abbrev pub Enters : Heap → Judged → Tau → Place → ℕ → Result (Bor Cursor) JudgeFault → Judged → Type 0
Enters h old t place q (Ok cell) new = (c : Cell) × (cells_of h q ≡ Some c) × CellStands cell.now c × Notes (amounts h) old (mention place q t ∷ []) (Ok tt) new
Enters h old t place q (Err fault) new = Notes (amounts h) old (mention place q t ∷ []) (Err fault) new

-- So it was with the address that a value is; or it is none, and doesn't fit, whose first token is at this place.
abbrev pub Reaches : Heap → Judged → Tau → Place → Written → Result (Bor Cursor) JudgeFault → Judged → Type 0
Reaches h old t at (address p n) result new = Enters h old t p (amount n) result new
Reaches h old t at w (Err (Misfit place)) new = place ≡ at
Reaches h old t at w _ new = ⊥
