use Rattle.std.proofs.Common.{List, ◌≡◌, subst}
use Rattle.cg_cmachine_builtins.specs.Called.{into_place, state_of}
use Rattle.cg_cmachine_layout.specs.Kinds.{shape_layout}
use Rattle.cg_cmachine_def.specs.BuiltIns.{make_struct}
use Rattle.cg_cmachine_def.specs.Layouts.{size}
use Rattle.cg_cmachine_def.specs.Operands.{Value}
use Rattle.cg_cmachine_def.specs.Outcomes.{Outcome, bind, ok}
use Rattle.cg_cmachine_values.specs.Values.{judged, value_of}
use Rattle.cg_heap.specs.declared.cell.Scalar.{Scalar}
use Rattle.cg_cmachine_running.specs.Machine.{Follows, by_names}
use Rattle.cg_cmachine_running.proofs.Steps as steps
use Rattle.cg_cmachine_running.proofs.calls.new_to.Goals as goal

pub returns-clause-gives : goal.returns-clause-gives
returns-clause-gives g c =
    let store = g.S.Store.stored c.args.store.now in
    let m = c.args.m.now in
    let made : Value → Outcome (List Scalar) =
    λ v. bind (make_struct c.args.name.now (size (shape_layout c.args.shape)) v (state_of store m.changes) m.left) (into_place store m.frame.slots.items c.args.place) in
    let known : judged store m.frame.slots.items c.args.heap.now ≡ ok (value_of c.in_ok-heap.heap) = rw c.as_slice.ensures.value at c.in_ok-heap.ensures in
    λ r asked n. subst (λ (o : Outcome (List Scalar)). Follows r asked n m (by_names r asked n m.frame.at.function o) c.make_to.new.m (g.S.Store.stored c.make_to.new.store) c.make_to.result)
    (steps.lift_ok store (judged store m.frame.slots.items c.args.heap.now) made (value_of c.in_ok-heap.heap) known) (c.make_to.ensures.gives r asked n)
