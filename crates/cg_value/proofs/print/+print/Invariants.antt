use Rattle.std.proofs.Common.{◌≡◌, ◌++◌, [], drop, map}
use Rattle.cg_base.specs.Types.{part_of, to_parts}
use Rattle.cg_value.specs.Printed.{fields_text, payload}
use Rattle.cg_value.specs.Values.{to_vals, value_of}
use Rattle.cg_value.proofs.print.+print.Given as goal

abbrev pub invariant-put_payload-loop-part : goal.invariant-put_payload-loop-part
invariant-put_payload-loop-part l =
    l.out.items ++ payload l.name (value_of l.value) (to_parts (map part_of (drop l.part-index l.parts)))
    ≡ l.fn.out.items ++ payload l.name (value_of l.value) (to_parts (map part_of l.parts))

abbrev pub invariant-put_fields-loop-i : goal.invariant-put_fields-loop-i
invariant-put_fields-loop-i l =
    l.out.items ++ fields_text l.tuple l.lead (to_vals (map value_of (drop l.i l.values))) (to_parts (map part_of (drop l.i l.parts)))
    ≡ l.fn.out.items ++ fields_text l.tuple [] (to_vals (map value_of l.values)) (to_parts (map part_of l.parts))
