-- What holds of all heap files, and of all bytes that are none.
use Rattle.std.specs.Prelude.{◌≡◌, ℕ, List}
use Rattle.cg_base.specs.Types.{Tau}
use Rattle.cg_heap.specs.declared.cell.Cell.{Cell as Held}
use Rattle.cg_heap.specs.declared.cell.Scalar.{Scalar}
use Rattle.cg_value.specs.Values.{Val}
use Rattle.cg_heaptext_def.specs.Grammar.{HeapSpells}
use Rattle.cg_heaptext_def.specs.HeapText.{Fault, HeapText, IsFaulty, IsNoHeap}
use Rattle.cg_heaptext_def.specs.Trees.{Heap}

-- What bytes hold that are a heap file for a type: one list of cells, one argument, one value (docs/LANGUAGE.md, "Heap files").
abbrev pub OneText : Type 0
OneText = (bytes : List ℕ) (t : Tau) (cs ds : List (ℕ × Held)) (us vs : List Scalar) (v w : Val) → HeapText bytes t cs us v → HeapText bytes t ds vs w → (cs ≡ ds) × (us ≡ vs) × (v ≡ w)

-- Bytes have H1 on one line at most.
abbrev pub OneCut : Type 0
OneCut = (bytes : List ℕ) (m n : ℕ) → IsNoHeap bytes m → IsNoHeap bytes n → m ≡ n

-- Bytes with H1 spell no heap file, so that they are none for any type and have no other fault.
abbrev pub CutIsNoText : Type 0
CutIsNoText = (bytes : List ℕ) (m : ℕ) → IsNoHeap bytes m → (h : Heap) → HeapSpells bytes h → ⊥

-- Bytes with one of H2 to H7 at a type are no heap file for it.
abbrev pub FaultIsNoText : Type 0
FaultIsNoText = (bytes : List ℕ) (t : Tau) (fault : Fault) (line : ℕ) → IsFaulty bytes t fault line → (cs : List (ℕ × Held)) (us : List Scalar) (v : Val) → HeapText bytes t cs us v → ⊥

-- Of H2 to H7 bytes have one first fault at most at a type, on one line.
abbrev pub OneFault : Type 0
OneFault = (bytes : List ℕ) (t : Tau) (f g : Fault) (m n : ℕ) → IsFaulty bytes t f m → IsFaulty bytes t g n → (f ≡ g) × (m ≡ n)
