-- What an action does, in the state at hand.
use Rattle.std.specs.Prelude.{ℕ, List, true, false}
use Rattle.cg_cmachine_builtins.specs.Called.{built_in_of, into_place, state_of}
use Rattle.cg_cmachine_layout.specs.Kinds.{layout_of, shape_layout}
use Rattle.cg_cmachine_running.specs.declared.machine.Machine.{Machine}
use Rattle.cg_cmachine_running.specs.Flat.{first_case, plain_at, put_at, word_at}
use Rattle.cg_cmachine_running.specs.Machine.{Asked, block, by_names, called_in, framed, inner, inner_case, landed_here, turned}
use Rattle.cg_cmachine_resolve.specs.declared.line.Action.{Action}
use Rattle.cg_cmachine_resolve.specs.declared.line.Action.TheVariants as action
use Rattle.cg_cmachine_resolve.specs.declared.line.Callee.{Callee}
use Rattle.cg_cmachine_resolve.specs.declared.line.Callee.TheVariants as callee
use Rattle.cg_cmachine_resolve.specs.declared.line.Right.{Right}
use Rattle.cg_cmachine_resolve.specs.declared.line.Right.TheVariants as right
use Rattle.cg_cmachine_resolve.specs.Resolutions.{Resolution, next}
use Rattle.cg_cmachine_def.specs.BuiltIns.{called, make_struct}
use Rattle.cg_cmachine_def.specs.Layouts.{size}
use Rattle.cg_cmachine_def.specs.Operands.{Value, give}
use Rattle.cg_cmachine_def.specs.Outcomes.{on, State, Outcome, done, bind, lift}
use Rattle.cg_cmachine_def.specs.Runs.{Flow, back, choose, goes, onward}
use Rattle.cg_cmachine_values.specs.declared.place.Place.{Place}
use Rattle.cg_cmachine_values.specs.Values.{judged, judged_all}
use Rattle.cg_heap.specs.declared.cell.Scalar.{Scalar}
use Rattle.cg_heap.specs.Stored.{Stored}

module _ (r : Resolution) (asked : Asked) (n : ℕ) (m : Machine) (store : Stored) where
  abbrev pub slots_now : List Scalar
  slots_now = m.frame.slots.items

  abbrev pub state_now : State
  state_now = state_of store m.changes

  -- a call whose value is assigned to a place
  abbrev pub called_to : Place → Callee → List Value → Outcome Flow
  called_to place (callee.BuiltIn b) vs =
      by_names r asked n m.frame.at.function (bind (called (built_in_of b) true vs state_now m.left) (into_place store slots_now place))
  called_to place c vs = landed_here r asked n m (called_in r asked n c vs state_now m.left)

  -- a call whose value nobody takes
  abbrev pub called_aside : Callee → List Value → Outcome Flow
  called_aside (callee.BuiltIn b) vs =
      bind (called (built_in_of b) false vs state_now m.left) (λ g s left. done (goes (framed r m.frame)) s left)
  called_aside c vs = landed_here r asked n m (called_in r asked n c vs state_now m.left)

  -- an assignment
  abbrev pub assigns : Place → Right → Outcome Flow
  assigns place (right.Call c os) = lift store (judged_all store slots_now os.items) (called_to place c)
  assigns place (right.New o name shape) =
      by_names r asked n m.frame.at.function (lift store (judged store slots_now o) (λ v.
      bind (make_struct name.now (size (shape_layout shape)) v state_now m.left) (into_place store slots_now place)))
  assigns place e =
      by_names r asked n m.frame.at.function (lift store (plain_at store slots_now e) (λ v. put_at slots_now place v state_now m.left))

  -- what comes of an action and of the statements behind it
  abbrev pub acts : Action → Outcome Flow
  acts (action.Assign place e) = onward (assigns place e) (block r asked n (next m.frame.at))
  acts (action.If o x y) =
      onward (lift store (word_at store slots_now o) (λ k. choose k (inner r asked n m store x) (inner r asked n m store y))) (block r asked n (next m.frame.at))
  acts (action.While o x) = lift store (word_at store slots_now o) (turned r asked n m store x)
  acts (action.Switch o es) =
      onward (lift store (word_at store slots_now o) (λ k. inner_case r asked n m store (first_case k es.items))) (block r asked n (next m.frame.at))
  acts (action.Call c os) = onward (lift store (judged_all store slots_now os.items) (called_aside c)) (block r asked n (next m.frame.at))
  acts (action.Return o) =
      onward (lift store (on (judged store slots_now o) (give (layout_of m.frame.kind))) (λ us. done (back us) state_now m.left)) (block r asked n (next m.frame.at))
