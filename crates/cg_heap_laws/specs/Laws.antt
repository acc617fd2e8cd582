-- Laws of what scalars represent in a heap, of the addresses that they reach, and of what calls change.
use Rattle.std.specs.Prelude.{◌≡◌, ℕ, ◌+◌, ◌≤◌, true, false, IsTrue, List, [], ◌∷◌, length, Some, ◌⊎◌}
use Rattle.std.specs.Option.{IsSome}
use Rattle.cg_base.specs.declared.kind.Kinds.{Kinds}
use Rattle.cg_base.specs.declared.kind.Sigil.{Sigil}
use Rattle.cg_base.specs.declared.kind.Sigil.TheVariants.{R, W, U}
use Rattle.cg_base.specs.Types.{Tau, arrow, fields, Parts, end, part}
use Rattle.cg_heap.specs.declared.cell.Scalar.{Scalar}
use Rattle.cg_heap.specs.declared.cell.Scalar.TheVariants.{Address}
use Rattle.cg_heap.specs.Frames.{Frame}
use Rattle.cg_heap.specs.Reps.{Heap, HeapWorld, Holds, AreApart, is_boxed, slots, foot}
use Rattle.cg_kinds.specs.Kinds.{kinds, bang}
use Rattle.cg_core_def.specs.Lawful.{IsLawfulType}
use Rattle.cg_value.specs.Fits.{World, fits}
use Rattle.cg_value.specs.Values.{Val}

-- what represents a value of a type has as many scalars as the type has slots
abbrev pub ScalarsFillSlots : Type 0
ScalarsFillSlots = (world : HeapWorld) (h : Heap) (t : Tau) (us : List Scalar) (v : Val) → Holds world h t us v → length us ≡ slots t

-- numbers stand for one value of each abstract type at most
abbrev pub StandsOnce : HeapWorld → Type 0
StandsOnce world = (name ns : List ℕ) (v v' : Val) → IsTrue (world.stands name ns v) → IsTrue (world.stands name ns v') → v ≡ v'

-- where they do, scalars represent one value of a type at most
abbrev pub ValuesAreOne : Type 0
ValuesAreOne =
    (world : HeapWorld) → StandsOnce world → (h : Heap) (t : Tau) (us : List Scalar) (v v' : Val)
    → Holds world h t us v → Holds world h t us v' → v ≡ v'

-- heaps that agree wherever a value is reached represent it by the same scalars, with the same footprints
abbrev pub FootprintsSuffice : Type 0
FootprintsSuffice =
    (world : HeapWorld) (h h' : Heap) (t : Tau) (us : List Scalar) (v : Val) → Holds world h t us v
    → ((q : ℕ) → 1 ≤ foot h W t us q + foot h R t us q → h' q ≡ h q)
    → Holds world h' t us v × ((m : Sigil) (q : ℕ) → foot h' m t us q ≡ foot h m t us q)

-- each address that a value reaches has a cell, and isn't the null address
abbrev pub FootprintsAreThere : Type 0
FootprintsAreThere =
    (world : HeapWorld) (h : Heap) (t : Tau) (us : List Scalar) (v : Val) → Holds world h t us v
    → (m : Sigil) (q : ℕ) → 1 ≤ foot h m t us q → (1 ≤ q) × IsSome (h q)

-- a record of two boxed records, of which the first is written
abbrev pub boxed_pair : List ℕ → Parts → List ℕ → Parts → Sigil → Tau
boxed_pair x ps y qs s = fields (part x (fields ps W) false (part y (fields qs s) false end)) U

-- where both are at one address, they are not apart, however the second is seen
abbrev pub AliasedIsNotApart : Type 0
AliasedIsNotApart =
    (h : Heap) (x y : List ℕ) (ps qs : Parts) (s : Sigil) (p : ℕ) → IsTrue (is_boxed s)
    → let t = boxed_pair x ps y qs s in let us = Address p ∷ Address p ∷ [] in ¬ AreApart (foot h W t us) (foot h R t us)

-- two changes of a heap, one behind the other, are one
abbrev pub FramesCompose : Type 0
FramesCompose = (h h' h'' : Heap) (w w' w'' : ℕ → ℕ) → Frame h w h' w' → Frame h' w' h'' w'' → Frame h w h'' w''

-- A change beside another part, which is there and apart from what is written before: it is a change of both that leaves the
-- part as it was, apart from what is written after.
abbrev pub FramesStandBeside : Type 0
FramesStandBeside =
    (h h' : Heap) (w w' : ℕ → ℕ) → Frame h w h' w' → (x : ℕ → ℕ) → ((q : ℕ) → 1 ≤ x q → IsSome (h q)) → ((q : ℕ) → 1 ≤ x q → w q ≡ 0)
    → Frame h (λ q. w q + x q) h' (λ q. w' q + x q) × ((q : ℕ) → 1 ≤ x q → (w' q ≡ 0) × (h' q ≡ h q))

-- what represents a value represents it observed
abbrev pub ObservedIsRepresented : Type 0
ObservedIsRepresented = (world : HeapWorld) (h : Heap) (t : Tau) (us : List Scalar) (v : Val) → Holds world h t us v → Holds world h (bang t) us v

-- observed, nothing is written, and what was written or read is read
abbrev pub ObservedIsRead : Type 0
ObservedIsRead = (h : Heap) (q : ℕ) (t : Tau) (us : List Scalar) → (foot h W (bang t) us q ≡ 0) × (foot h R (bang t) us q ≡ foot h W t us q + foot h R t us q)

-- what may escape reads nothing
abbrev pub EscapingReadsNothing : Type 0
EscapingReadsNothing = (h : Heap) (vars : List Kinds) (t : Tau) (us : List Scalar) (q : ℕ) → (kinds vars t).escape ≡ true → foot h R t us q ≡ 0

-- what may be dropped or shared writes nothing
abbrev pub SharedWritesNothing : Type 0
SharedWritesNothing =
    (h : Heap) (vars : List Kinds) (t : Tau) (us : List Scalar) (q : ℕ) → ((kinds vars t).drop ≡ true) ⊎ ((kinds vars t).share ≡ true) → foot h W t us q ≡ 0

-- A value that is represented at a lawful type fits it, where instances fit their types and numbers stand for what abstract
-- types hold.
abbrev pub RepresentedFits : Type 0
RepresentedFits =
    (world : HeapWorld) (known : World)
    → ((n : ℕ) (v : Val) (a b : Tau) → world.instance_at n ≡ Some (v, arrow a b) → IsTrue (fits known (arrow a b) v))
    → ((name ns : List ℕ) (v : Val) → IsTrue (world.stands name ns v) → IsTrue (known.holds name v))
    → (h : Heap) (vars : ℕ) (t : Tau) (us : List Scalar) (v : Val) → IsLawfulType vars t → Holds world h t us v → IsTrue (fits known t v)
