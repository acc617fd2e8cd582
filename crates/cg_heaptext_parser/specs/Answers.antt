-- What reading a heap file answers, and why (docs/LANGUAGE.md, "Heap files").
use Rattle.std.specs.Prelude.{◌≡◌, ℕ, Bool, true, false, List, Result, Ok, Err, ⊤}
use Rattle.cg_base.specs.declared.place.Place.{Place}
use Rattle.cg_heaptext_def.specs.Grammar.{HeapSpells}
use Rattle.cg_heaptext_def.specs.HeapText.{IsCutAt}
use Rattle.cg_heaptext_def.specs.Trees.{Heap}
use Rattle.cg_heaptext_parser.specs.declared.fault.TextFault.{TextFault}
use Rattle.cg_heaptext_parser.specs.declared.fault.TextFault.TheVariants.{Text, Memory}

-- The answer is right: the bytes spell a heap file, one alone; or at this place stands the first token that none goes on with, or the end.
abbrev pub Answers : List ℕ → Result Unit TextFault → Type 0
Answers bytes (Ok u) = (h : Heap) × HeapSpells bytes h × ((g : Heap) → HeapSpells bytes g → g ≡ h)
Answers bytes (Err (Text place)) = IsCutAt bytes place
Answers bytes (Err Memory) = ⊤

-- at the end, at this place: whether a heap file ends there
abbrev pub Concludes : Bool → Place → Result Unit TextFault → Type 0
Concludes true place (Ok u) = ⊤
Concludes true place (Err fault) = ⊥
Concludes false place (Ok u) = ⊥
Concludes false place (Err fault) = fault ≡ Text place
