-- How a run goes (docs/LANGUAGE.md, "The C subset", steps).
use Rattle.std.specs.Prelude.{ℕ, zero, suc, ◌-◌, List, Option, None, Some, cond, nat_lt}
use Rattle.cg_ctree.specs.declared.why.Why.{Why}
use Rattle.cg_ctree.specs.declared.why.Why.TheVariants.{KindsDiffer}
use Rattle.cg_heap.specs.Stored.{Stored}

-- what judging gives
pub data Judged (A : Type 0) : Type 0 where
  ok : A → Judged A
  no : Why → Judged A

abbrev pub on : {A B : Type 0} → Judged A → (A → Judged B) → Judged B
on (ok a) f = f a
on (no why) f = no why

-- what is found, or that types don't agree
abbrev pub found : {A : Type 0} → Option A → Judged A
found None = no KindsDiffer
found (Some a) = ok a

-- what a run has of the heap: the store, and the addresses of the cells that it made and freed, in the order of its steps
pub record State : Type 0 where
  pub store : Stored
  pub made : List ℕ
  pub freed : List ℕ

-- What a run gives, with the state behind it and the steps that are left; or why it is stuck, with the store as the steps that are
-- done left it; or that more steps are needed, with the store likewise; or that an abstract function was called with what
-- represents no value that it takes.
pub data Outcome (A : Type 0) : Type 0 where
  done : A → State → ℕ → Outcome A
  stuck : Why → Stored → Outcome A
  needs : Stored → Outcome A
  astray : Outcome A

abbrev pub bind : {A B : Type 0} → Outcome A → (A → State → ℕ → Outcome B) → Outcome B
bind (done a s left) f = f a s left
bind (stuck why m) f = stuck why m
bind (needs m) f = needs m
bind astray f = astray

-- what is judged in a step that has changed nothing, or whose changes don't count where it is stuck: this store stands then
abbrev pub lift : {A B : Type 0} → Stored → Judged A → (A → Outcome B) → Outcome B
lift m (ok a) f = f a
lift m (no why) f = stuck why m

-- one step, which is counted before anything of it is judged
abbrev pub spend : {A : Type 0} → Stored → ℕ → (ℕ → Outcome A) → Outcome A
spend m zero f = needs m
spend m (suc left) f = f left

-- so many steps at once, before anything of them is done
abbrev pub spend_for : {A : Type 0} → Stored → ℕ → ℕ → (ℕ → Outcome A) → Outcome A
spend_for m cost left f = cond (nat_lt left cost) (needs m) (f (left - cost))

-- a run that calls no abstract function with what represents no value that it takes
abbrev pub IsCalm : {A : Type 0} → Outcome A → Type 0
IsCalm (done a s left) = Unit {0}
IsCalm (stuck why m) = Unit {0}
IsCalm (needs m) = Unit {0}
IsCalm astray = ⊥
