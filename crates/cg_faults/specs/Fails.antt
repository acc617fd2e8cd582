-- Which rule fails, and where: the first condition that fails in the order of reading, of a whole kernel. And that no type of a node passes
-- the limit.
use Rattle.std.specs.Prelude.{◌≡◌, ◌⊎◌, ◌<◌, ◌≤◌, ℕ, false, IsTrue, Option, Some, None, List, [], ◌∷◌, slice_get}
use Rattle.cg_base.specs.declared.place.Place.{Place}
use Rattle.cg_core.specs.Kernels.{Function, Body}
use Rattle.cg_faults.specs.declared.rule.Rule.TheVariants.{T4, T14}
use Rattle.cg_typing.specs.Accepted.{kinds_of_vars}
use Rattle.cg_faults.specs.Conditions.{Condition, typed, Breaks, ruled, scope_conditions, conditions}
use Rattle.cg_typing.specs.Parts.{is_arrow, taken_by, given_by, has_word_arrays, is_small_enough}
use Rattle.cg_faults.specs.Plain.{plain_in}
use Rattle.cg_faults.specs.Rule.{Test}
use Rattle.cg_faults.specs.Sites.{Path, argument, Site, down, scope_types}

-- when something of a function is judged: its signature, a node after so many of its parts, or the end of its body
pub data Moment : Type 0 where
  at_signature : Moment
  at_node : Path → ℕ → Moment
  at_end : Moment

-- one moment of a body before another: what stands after n parts of a node comes before part n, and behind the parts before it
abbrev pub NodeBefore : Path → ℕ → Path → ℕ → Type 0
NodeBefore [] n [] m = n < m
NodeBefore [] n (j ∷ q) m = n ≤ j
NodeBefore (i ∷ p) n [] m = i < m
NodeBefore (i ∷ p) n (j ∷ q) m = (i < j) ⊎ ((i ≡ j) × NodeBefore p n q m)

abbrev pub MomentBefore : Moment → Moment → Type 0
MomentBefore at_signature at_signature = ⊥
MomentBefore at_signature m = Unit {0}
MomentBefore (at_node p n) (at_node q m) = NodeBefore p n q m
MomentBefore (at_node p n) at_end = Unit {0}
MomentBefore _ _ = ⊥

-- where something is judged: the function by its position, the moment, and the number of the condition then
pub record Judged : Type 0 where
  pub fun : ℕ
  pub moment : Moment
  pub number : ℕ

-- the order of reading: functions in the order of their signatures, in a function by moments, in a moment by number
abbrev pub JudgedBefore : Judged → Judged → Type 0
JudgedBefore a b =
    (a.fun < b.fun) ⊎ ((a.fun ≡ b.fun) × (MomentBefore a.moment b.moment ⊎ ((a.moment ≡ b.moment) × (a.number < b.number))))

-- the body's own node, with the argument in scope, checked against the result
abbrev pub root_of : Function → Body → Site
root_of f b =
    record {
      path = [];
      scope = record { variable = argument; ty = taken_by f.ty.ty; observed = false } ∷ [];
      direction = Some (given_by f.ty.ty);
      node = b.term;
    }

abbrev pub signature_conditions : Function → List Condition
signature_conditions f = ruled T4 f.ty.place (is_arrow f.ty.ty) ∷ (ruled T14 f.ty.place (has_word_arrays f.ty.ty) ∷ [])

module _ (functions : List Function) where
  abbrev pub site_conditions : Function → Option Site → ℕ → List Condition
  site_conditions f None n = []
  site_conditions f (Some s) n = conditions functions (kinds_of_vars f) s n

  -- the conditions of a body at a moment
  abbrev pub body_conditions : Function → Body → Moment → List Condition
  body_conditions f b at_signature = []
  body_conditions f b (at_node path n) = site_conditions f (down functions (Some (root_of f b)) path) n
  body_conditions f b at_end = scope_conditions (kinds_of_vars f) b.param (taken_by f.ty.ty) argument

  -- in a function the condition of this number at this moment fails, by this test at this place
  abbrev pub FailsInBody : Function → Option Body → Moment → ℕ → Test → Place → Type 0
  FailsInBody f None moment number test place = ⊥
  FailsInBody f (Some b) moment number test place =
      (c : Condition) × (slice_get (body_conditions f b moment) number ≡ Some c) × Breaks functions (root_of f b) c test place

  -- the signature's conditions fail by plain typing alone
  pub record FailsInSignature (f : Function) (number : ℕ) (test : Test) (place : Place) : Type 0 where
    pub is : slice_get (signature_conditions f) number ≡ Some (typed test place false)

  abbrev pub FailsInFunction : Function → Moment → ℕ → Test → Place → Type 0
  FailsInFunction f at_signature number test place = FailsInSignature f number test place
  FailsInFunction f moment number test place = FailsInBody f f.body moment number test place

  -- what is judged there fails
  pub record FailsAt (judged : Judged) (test : Test) (place : Place) : Type 0 where
    pub function : Function
    pub is : slice_get functions judged.fun ≡ Some function
    pub fails : FailsInFunction function judged.moment judged.number test place

  -- the first that fails, and no other: this rule at this place
  pub record Fails (test : Test) (place : Place) : Type 0 where
    pub judged : Judged
    pub fails : FailsAt judged test place
    pub first : (other : Judged) → JudgedBefore other judged → (t : Test) (p : Place) → FailsAt other t p → ⊥

  -- ---- the limit on types

  -- the type of the node that stands there, by plain typing, is within the limit
  abbrev pub IsTypeWithin : Site → Type 0
  IsTypeWithin s = IsTrue (is_small_enough (plain_in functions (scope_types s) s.direction s.node))

  -- and so is that of each node of a body
  abbrev pub AreTypesIn : Function → Body → Type 0
  AreTypesIn f body = (path : Path) (s : Site) → down functions (Some (root_of f body)) path ≡ Some s → IsTypeWithin s

-- no type of a node of a body passes the limit `type`
abbrev pub AreTypesWithin : List Function → Type 0
AreTypesWithin functions = (i : ℕ) (f : Function) (body : Body) → slice_get functions i ≡ Some f → f.body ≡ Some body → AreTypesIn functions f body
