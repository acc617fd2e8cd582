use Rattle.std.proofs.Common.{◌≡◌, map, drop}
use Rattle.cg_base.specs.Types.{part_of, to_parts}
use Rattle.cg_core.specs.Kernels.{the_field}
use Rattle.cg_core.specs.Terms.{to_named}
use Rattle.cg_faults.specs.Plain.{are_fields}
use Rattle.cg_typing_parts.proofs.record.are_fields.Given as goal

abbrev pub invariant-loop-i : goal.invariant-loop-i
invariant-loop-i l =
    are_fields (to_parts (map part_of (drop l.i l.xs))) (to_named (map the_field (drop l.i l.ys)))
    ≡ are_fields (to_parts (map part_of l.xs)) (to_named (map the_field l.ys))
