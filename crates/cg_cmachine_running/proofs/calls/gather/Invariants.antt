use Rattle.std.proofs.Common.{◌≡◌, ◌++◌, drop, map}
use Rattle.cg_cmachine_layout.specs.Kinds.{layout_of}
use Rattle.cg_cmachine_def.specs.Outcomes.{ok, on}
use Rattle.cg_cmachine_values.specs.Values.{value_of}
use Rattle.cg_cmachine_running.specs.Machine.{gathered}
use Rattle.cg_cmachine_running.proofs.calls.gather.Given as goal

abbrev pub invariant-loop-i : goal.invariant-loop-i
invariant-loop-i l =
    gathered (map layout_of l.fn.params) (map value_of l.fn.values)
    ≡ on (gathered (map layout_of (drop l.i l.params)) (map value_of (drop l.i l.values))) (λ us. ok (l.slots.items ++ us))
