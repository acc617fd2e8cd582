-- When what an update gives represents what evaluation gives: at the same cost, by a step from what the variables reach to what the result
-- reaches (the paper's refinement, section 3; docs/LANGUAGE.md, "Parts of a heap").
use Rattle.std.specs.Prelude.{◌≡◌, ℕ, Bool, ◌&&◌, List, ◌++◌}
use Rattle.cg_base.specs.declared.kind.Sigil.TheVariants.{R, W}
use Rattle.cg_base.specs.Types.{Tau}
use Rattle.cg_core.specs.Terms.{Note, Tree}
use Rattle.cg_eval_def.specs.Evaluation as values
use Rattle.cg_eval_def.specs.Evaluation.{spent, stuck}
use Rattle.cg_heap.specs.Calls.{heap_of}
use Rattle.cg_heap.specs.declared.cell.Scalar.{Scalar}
use Rattle.cg_heap.specs.Reps.{HeapWorld, Holds, foot}
use Rattle.cg_heap.specs.Steps.{Side, Step, side}
use Rattle.cg_typing.specs.Instances.{Instance}
use Rattle.cg_typing.specs.Rules.{type_at}
use Rattle.cg_update.specs.Outcomes.{State, Outcome, gives}
use Rattle.cg_update.specs.Turns.{alternatives_in}
use Rattle.cg_update.specs.Among.{are_apart, is_mention_among}
use Rattle.cg_value.specs.Values.{Val}

-- a state, with what may be written and read
abbrev pub side_of : State → (ℕ → ℕ) → (ℕ → ℕ) → Side
side_of s writes reads = side (heap_of s.store) s.store.top writes reads

-- from one state to another, by a step: what was made and freed on the way stands behind what was before
pub record Reached (before : State) (writes reads : ℕ → ℕ) (after : State) (writes' reads' : ℕ → ℕ) : Type 0 where
  pub made : List ℕ
  pub freed : List ℕ
  pub all_made : after.made ≡ before.made ++ made
  pub all_freed : after.freed ≡ before.freed ++ freed
  pub step : Step (side_of before writes reads) made freed (side_of after writes' reads')

-- scalars that represent the value are given, with as much left, by a step to what they reach
pub record IsGiven (world : HeapWorld) (before : State) (writes reads : ℕ → ℕ) (t : Tau) (v : Val) (left : ℕ) (o : Outcome) : Type 0 where
  pub scalars : List Scalar
  pub state : State
  pub is : o ≡ gives scalars state left
  pub holds : Holds world (heap_of state.store) t scalars v
  pub reached : Reached before writes reads state (foot (heap_of state.store) W t scalars) (foot (heap_of state.store) R t scalars)

-- what an update gives, where evaluation gives a value; nothing is asked where it doesn't
module _ (world : HeapWorld) (before : State) (writes reads : ℕ → ℕ) where
  abbrev pub IsRefined : Tau → values.Outcome → Outcome → Type 0
  IsRefined t spent o = Unit {0}
  IsRefined t stuck o = Unit {0}
  IsRefined t (values.gives v left) o = IsGiven world before writes reads t v left o

-- No two alternatives of a node's variant have one name, and what it mentions, without type variables, stands among some places of a list.
abbrev pub is_clear_node : List Instance → (ℕ → Bool) → Tree Note → Bool
is_clear_node list among t = are_apart (alternatives_in (type_at t)) && is_mention_among list among t
