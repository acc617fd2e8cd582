-- What holds at a site of a lawful body where its events are judged, and which flags stand there for earlier touches.
use Rattle.std.proofs.Common.{◌≡◌, ◌⊎◌, ◌↔◌, ℕ, ◌<◌, ◌≤◌, true, false, ◌||◌, not, Option, Some, None, List, [], ◌∷◌, ◌++◌, length, slice_get}
use Rattle.cg_base.specs.declared.place.Place.{Place}
use Rattle.cg_base.specs.Types.{Tau}
use Rattle.cg_core.specs.declared.term.Seen.{Seen}
use Rattle.cg_core.specs.Kernels.{Function, Body}
use Rattle.cg_core.specs.Terms.{Tree, var, let_bang}
use Rattle.cg_faults.specs.declared.rule.Rule.TheVariants.{K4}
use Rattle.cg_typing.specs.Accepted.{kinds_of_vars}
use Rattle.cg_faults.specs.Conditions.{touch_condition, observer_conditions, scope_conditions, branch_conditions}
use Rattle.cg_faults.specs.Events.{Before, judged, nowhere, observer_events, scope_end, branch_events}
use Rattle.cg_faults.specs.Fails.{root_of}
use Rattle.cg_faults.specs.Occurrences.{touched, used}
use Rattle.cg_faults.specs.Plain.{plain_at}
use Rattle.cg_typing.specs.Rules.{note_at}
use Rattle.cg_faults.specs.Sites.{Path, Variable, argument, bound_at, Entry, Site, shape_inside, scope_types, parts, down}
use Rattle.cg_faults.specs.Touches.{IsChoice, IsTouchAt}
use Rattle.cg_typing.specs.Contexts.{drops, shares}
use Rattle.cg_faults_laws.proofs.Parts.{IsWell, Lawful}
use Rattle.cg_faults_laws.proofs.Tells.{Tells}

module _ (functions : List Function) where
  -- a touch of a variable that stands before a path, in another part of some node, and not in another branch of it: it clashes
  -- with whatever touches the variable at that path
  pub record IsTouchedBefore (root : Site) (x : Variable) (path : Path) : Type 0 where
    pub above : Path
    pub one : ℕ
    pub other : ℕ
    pub first : Path
    pub second : Path
    pub observer : Option ℕ
    pub site : Site
    pub earlier : one < other
    pub there : path ≡ above ++ (other ∷ second)
    pub touches : IsTouchAt functions root x (above ++ (one ∷ first)) observer
    pub stands : down functions (Some root) above ≡ Some site
    pub together : IsChoice (shape_inside site.node) → one ≡ 0

  -- an earlier part of a site touches the variable at a position, and is no other branch of it
  pub record IsTouchedPart (s : Site) (i j : ℕ) : Type 0 where
    pub number : ℕ
    pub part : Site
    pub entry : Entry
    pub earlier : number < j
    pub is : slice_get (parts functions s) number ≡ Some part
    pub in_scope : slice_get part.scope i ≡ Some entry
    pub unobserved : entry.observed ≡ false
    pub is_touched : touched i part.node ≡ true
    pub together : IsChoice (shape_inside s.node) → number ≡ 0

  -- the flags of part j, which is this one: those of its site, and what the earlier parts touch. What is bound at the site has none
  pub record IsFlagged (s : Site) (b : Before) (j : ℕ) (p : Site) (flags : Before) : Type 0 where
    pub old : (i : ℕ) (e : Entry) → slice_get p.scope i ≡ Some e → e.observed ≡ false → i < length s.scope → (flags i ≡ true ↔ (b i ≡ true ⊎ IsTouchedPart s i j))
    pub new : (i : ℕ) (e : Entry) → slice_get p.scope i ≡ Some e → length s.scope ≤ i → flags i ≡ false

-- a site of the body of a function, and the flags with which its events are judged
module _ (functions : List Function) (f : Function) (body : Body) (types_in : ℕ) where
  pub record Stand (s : Site) (b : Before) : Type 0 where
    pub stands : down functions (Some (root_of f body)) s.path ≡ Some s
    pub well : IsWell s
    pub lawful : Lawful functions types_in (length s.scope) s.node
    pub seen : (i : ℕ) (e : Entry) → slice_get s.scope i ≡ Some e → e.observed ≡ true → (drops (kinds_of_vars f) e.ty ≡ true) × (shares (kinds_of_vars f) e.ty ≡ true)
    pub flags : (i : ℕ) (e : Entry) → slice_get s.scope i ≡ Some e → e.observed ≡ false → (b i ≡ true ↔ IsTouchedBefore functions (root_of f body) e.variable s.path)

  -- each entry of one scope stands at its position in another
  abbrev pub Extends : List Entry → List Entry → Type 0
  Extends scope later = (i : ℕ) (e : Entry) → slice_get scope i ≡ Some e → slice_get later i ≡ Some e

  -- what the tests on occurrences owe: that flags go down to the parts of a site, and that the events of K3, K4 and K5 tell what their
  -- conditions say
  pub record OccurrenceRows : Type 0 where
    pub root_stands : Stand (root_of f body) nowhere
    pub part_stands : (s : Site) (b : Before) → Stand s b → (j : ℕ) (p : Site) → slice_get (parts functions s) j ≡ Some p
        → (flags : Before) → IsFlagged functions s b j p flags → Stand p flags
    pub tells_variable : (s : Site) (b : Before) → Stand s b → (i : ℕ) → shape_inside s.node ≡ var i → (place : Place)
        → Tells functions (root_of f body) (judged K4 place (not (b i) || shares (kinds_of_vars f) (plain_at (scope_types s) i)) ∷ [])
        (touch_condition (kinds_of_vars f) place (record { path = s.path; observer = None }) (slice_get s.scope i))
    pub tells_observers : (s : Site) (b : Before) → Stand s b → (os : List Seen) (binder : Place) (e k : Tree Place) → shape_inside s.node ≡ let_bang os binder e k
        → Tells functions (root_of f body) (observer_events functions (kinds_of_vars f) (scope_types s) b os) (observer_conditions (kinds_of_vars f) s 0 os)
    pub tells_scope : (s : Site) (b : Before) → Stand s b → (j : ℕ) (p : Site) → slice_get (parts functions s) j ≡ Some p → (flags : Before) → Stand p flags
        → (n i : ℕ) (e : Entry) → slice_get p.scope i ≡ Some e → e.variable ≡ bound_at s.path n → e.observed ≡ false → (binder : Place)
        → Tells functions (root_of f body) (scope_end functions (kinds_of_vars f) i binder e.ty p.node) (scope_conditions (kinds_of_vars f) binder e.ty (bound_at s.path n))
    pub tells_argument : (binder : Place) (t : Tau)
        → Tells functions (root_of f body) (scope_end functions (kinds_of_vars f) 0 binder t body.term) (scope_conditions (kinds_of_vars f) binder t argument)
    pub tells_branches : (s : Site) (b : Before) → Stand s b → (p q : Site) → slice_get (parts functions s) 1 ≡ Some p → slice_get (parts functions s) 2 ≡ Some q
        → (first second : Before) → Stand p first → Stand q second → Extends s.scope p.scope → Extends s.scope q.scope
        → Tells functions (root_of f body) (branch_events (kinds_of_vars f) (λ i. used i p.node) (λ i. used i q.node) (note_at p.node) (note_at q.node) (scope_types s))
        (branch_conditions (kinds_of_vars f) s p.node q.node)
