use Rattle.std.proofs.Common.{◌≡◌, ◌++◌, drop, map}
use Rattle.cg_base.specs.Types.{part_of, to_parts}
use Rattle.cg_heap.specs.Readings.{alternative_at, values_at}
use Rattle.cg_heap.specs.Reps.{first_number, tail}
use Rattle.cg_heap.specs.Stored.{cell_at}
use Rattle.cg_value.specs.Values.{value_of}
use Rattle.cg_heap.proofs.read.+read.Given as goal

abbrev pub invariant-read_record-loop-part : goal.invariant-read_record-loop-part
invariant-read_record-loop-part g l =
    map value_of l.fields ++ values_at (λ q. cell_at (g.S.Store.stored l.store) q) (to_parts (map part_of (drop l.part-index l.parts))) l.rest
    ≡ values_at (λ q. cell_at (g.S.Store.stored l.store) q) (to_parts (map part_of l.parts)) l.scalars

abbrev pub invariant-read_variant-loop-alternative : goal.invariant-read_variant-loop-alternative
invariant-read_variant-loop-alternative g l =
    alternative_at (λ q. cell_at (g.S.Store.stored l.store) q) (to_parts (map part_of (drop l.alternative-index l.alternatives))) l.left l.rest
    ≡ alternative_at (λ q. cell_at (g.S.Store.stored l.store) q) (to_parts (map part_of l.alternatives)) (first_number l.scalars) (tail l.scalars)
