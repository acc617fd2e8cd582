-- The laws that join the two definitions of a fault: the events, with tests on terms, and the faults in their own words, with
-- paths in the whole body.
use Rattle.std.specs.Prelude.{◌≡◌, ◌↔◌, ◌++◌, ℕ, true, false, Option, Some, None, List, slice_get}
use Rattle.cg_base.specs.declared.place.Place.{Place}
use Rattle.cg_core.specs.Kernels.{Function, Body}
use Rattle.cg_core_def.specs.Lawful.{IsLawfulKernel}
use Rattle.cg_typing.specs.Accepted.{IsAcceptedKernel}
use Rattle.cg_faults.specs.Events.{LimitsHold, kernel_events, first_failing}
use Rattle.cg_faults.specs.Fails.{Judged, root_of, FailsAt, Fails, AreTypesWithin}
use Rattle.cg_check_laws.specs.Laws.{IsLawfulIn}
use Rattle.cg_faults.specs.Occurrences.{touched, used}
use Rattle.cg_faults.specs.Rule.{Test}
use Rattle.cg_faults.specs.Sites.{Path, Variable, bound_at, Entry, Site}
use Rattle.cg_faults.specs.Touches.{Stands, IsTouchAt, HasUse}

-- at each site of a lawful body, for each variable in scope that isn't observed: the test by its position says that it is used
-- in the site's node exactly where a use of it stands at the site's path or below
abbrev pub UsesAgree : Type 0
UsesAgree =
    (functions : List Function) (f : Function) (body : Body) (type_variables : ℕ) → IsLawfulIn functions type_variables body.term
    → (path : Path) (s : Site) → Stands functions (root_of f body) path s
    → (i : ℕ) (e : Entry) → slice_get s.scope i ≡ Some e → e.observed ≡ false
    → (used i s.node ≡ true ↔ HasUse functions (root_of f body) e.variable path)

-- there is a touch at a path or below it
pub record HasTouch (functions : List Function) (root : Site) (x : Variable) (path : Path) : Type 0 where
  pub below : Path
  pub observer : Option ℕ
  pub touches : IsTouchAt functions root x (path ++ below) observer

-- the same of touches, which are uses and sightings
abbrev pub TouchesAgree : Type 0
TouchesAgree =
    (functions : List Function) (f : Function) (body : Body) (type_variables : ℕ) → IsLawfulIn functions type_variables body.term
    → (path : Path) (s : Site) → Stands functions (root_of f body) path s
    → (i : ℕ) (e : Entry) → slice_get s.scope i ≡ Some e → e.observed ≡ false
    → (touched i s.node ≡ true ↔ HasTouch functions (root_of f body) e.variable path)

-- what is bound at a node is touched only at paths below it
abbrev pub BoundVariablesStandBelow : Type 0
BoundVariablesStandBelow =
    (functions : List Function) (f : Function) (body : Body) (path : Path) (number : ℕ) (q : Path) (observer : Option ℕ)
    → IsTouchAt functions (root_of f body) (bound_at path number) q observer → (below : Path) × (q ≡ path ++ below)

-- of a lawful kernel: no event fails exactly where it is accepted, with any splits, and no type passes the limit, and there nothing is
-- at fault; else the first event that fails is the one fault, its test and its place
pub record KernelsAreAcceptedOrAtFault : Type 0 where
  pub accepted : (functions : List Function) → IsLawfulKernel functions
      → (first_failing (kernel_events functions) ≡ None ↔ IsAcceptedKernel functions × AreTypesWithin functions)
  pub fault : (functions : List Function) → IsLawfulKernel functions → (test : Test) (place : Place)
      → (first_failing (kernel_events functions) ≡ Some (test, place) ↔ Fails functions test place)
  pub faultless : (functions : List Function) → IsLawfulKernel functions
      → (first_failing (kernel_events functions) ≡ None ↔ ((judged : Judged) (test : Test) (place : Place) → FailsAt functions judged test place → ⊥))

-- in a lawful kernel that is accepted, no type of a node passes the limit exactly where no event of that limit fails
abbrev pub TypesAreWithin : Type 0
TypesAreWithin =
    (functions : List Function) → IsLawfulKernel functions → IsAcceptedKernel functions → (LimitsHold (kernel_events functions) ↔ AreTypesWithin functions)
