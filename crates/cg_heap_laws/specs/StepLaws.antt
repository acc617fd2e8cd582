-- Laws of steps: what follows each other, what stands beside, and the changes of one cell.
use Rattle.std.specs.Prelude.{◌≡◌, ℕ, ◌+◌, ◌<◌, ◌≤◌, ◌⊎◌, false, nat_eq, List, [], ◌∷◌, ◌++◌, Option, Some, None, ◌↔◌}
use Rattle.cg_base.specs.declared.kind.Sigil.TheVariants.{R, W}
use Rattle.cg_base.specs.Types.{Tau}
use Rattle.cg_heap.specs.declared.cell.Cell.{Cell}
use Rattle.cg_heap.specs.declared.cell.Scalar.{Scalar}
use Rattle.cg_heap.specs.Reps.{AreApart, Heap, HeapWorld, Holds, foot, one_if}
use Rattle.cg_heap.specs.Steps.{IsFine, Side, Step, count, side}
use Rattle.cg_value.specs.Values.{Val}

-- steps follow each other, with what each made and freed
abbrev pub StepsFollow : Type 0
StepsFollow =
    (a b c : Side) (made freed made' freed' : List ℕ) → IsFine a → Step a made freed b → Step b made' freed' c → Step a (made ++ made') (freed ++ freed') c

-- A step of a part stands beside the rest: what is written is that of the part and of the rest, and the part may read what the rest does, or
-- what the rest may write, as long as what it gives reads no more than the whole did. It is a step of the whole, and leaves the rest as it was.
abbrev pub StepsStandBeside : Type 0
StepsStandBeside =
    (h h' : Heap) (top top' : ℕ) (made freed : List ℕ) (w r w1 r1 w2 r2 w' r' : ℕ → ℕ)
    → IsFine (side h top w r) → ((q : ℕ) → w1 q + w2 q ≡ w q) → ((q : ℕ) → r2 q ≤ r q) → ((q : ℕ) → r1 q ≤ r q + w2 q)
    → Step (side h top w1 r1) made freed (side h' top' w' r') → ((q : ℕ) → 1 ≤ r' q → 1 ≤ r q)
    → Step (side h top w r) made freed (side h' top' (λ q. w' q + w2 q) (λ q. r' q + r2 q)) × ((q : ℕ) → 1 ≤ w2 q + r2 q → h' q ≡ h q)

-- both the part and the rest begin where all is fine
abbrev pub PartsAreFine : Type 0
PartsAreFine =
    (h : Heap) (top : ℕ) (w r w1 r1 w2 r2 : ℕ → ℕ)
    → IsFine (side h top w r) → ((q : ℕ) → w1 q + w2 q ≡ w q) → ((q : ℕ) → r2 q ≤ r q) → ((q : ℕ) → r1 q ≤ r q + w2 q)
    → IsFine (side h top w1 r1) × IsFine (side h top w2 r2)

-- the second heap is the first with this at an address
abbrev pub IsWrittenAt : Heap → ℕ → Option Cell → Heap → Type 0
IsWrittenAt h p o h' = (q : ℕ) → (p ≡ q → h' q ≡ o) × (nat_eq p q ≡ false → h' q ≡ h q)

-- where nothing is done, the same may be written, and no more be read
abbrev pub NothingIsAStep : Type 0
NothingIsAStep =
    (h : Heap) (top : ℕ) (w r w' r' : ℕ → ℕ) → IsFine (side h top w r) → ((q : ℕ) → w' q ≡ w q) → ((q : ℕ) → 1 ≤ r' q → 1 ≤ r q)
    → Step (side h top w r) [] [] (side h top w' r')

-- an own cell is written
abbrev pub WritesAreSteps : Type 0
WritesAreSteps =
    (h h' : Heap) (top p : ℕ) (c : Cell) (w r w' r' : ℕ → ℕ) → IsFine (side h top w r) → 1 ≤ w p → IsWrittenAt h p (Some c) h'
    → ((q : ℕ) → w' q ≡ w q) → ((q : ℕ) → 1 ≤ r' q → 1 ≤ r q) → Step (side h top w r) [] [] (side h' top w' r')

-- an own cell is freed
abbrev pub FreesAreSteps : Type 0
FreesAreSteps =
    (h h' : Heap) (top p : ℕ) (w r w' r' : ℕ → ℕ) → IsFine (side h top w r) → IsWrittenAt h p None h'
    → ((q : ℕ) → w q ≡ one_if (nat_eq p q) + w' q) → ((q : ℕ) → 1 ≤ r' q → 1 ≤ r q) → Step (side h top w r) [] (p ∷ []) (side h' top w' r')

-- a cell is made above all others
abbrev pub MakesAreSteps : Type 0
MakesAreSteps =
    (h h' : Heap) (top : ℕ) (c : Cell) (w r w' r' : ℕ → ℕ) → IsFine (side h top w r) → IsWrittenAt h (top + 1) (Some c) h'
    → ((q : ℕ) → w' q ≡ w q + one_if (nat_eq (top + 1) q)) → ((q : ℕ) → 1 ≤ r' q → 1 ≤ r q)
    → Step (side h top w r) ((top + 1) ∷ []) [] (side h' (top + 1) w' r')

-- what was freed has no repeats, and is exactly what was written or made and isn't written any more
abbrev pub FreedIsExact : Type 0
FreedIsExact =
    (before after : Side) (made freed : List ℕ) → IsFine before → Step before made freed after
    → (q : ℕ) → (count q freed ≤ 1) × ((1 ≤ count q freed) ↔ (((1 ≤ before.writes q) ⊎ (1 ≤ count q made)) × (after.writes q ≡ 0)))

-- what is represented, apart, and in a heap without cells above its highest address is fine: what is reached has a cell
abbrev pub HeldIsFine : Type 0
HeldIsFine =
    (world : HeapWorld) (h : Heap) (top : ℕ) (t : Tau) (us : List Scalar) (v : Val) → Holds world h t us v
    → AreApart (foot h W t us) (foot h R t us) → ((q : ℕ) → top < q → h q ≡ None) → IsFine (side h top (foot h W t us) (foot h R t us))
